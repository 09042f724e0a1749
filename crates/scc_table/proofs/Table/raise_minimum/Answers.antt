use Rattle.std.proofs.Common.{◌≡◌, ◌∙◌, ◌+◌, ◌*◌, ◌≤◌, ◌⊎◌, rules, sym, ap, subst, arith}
use Rattle.std.specs.List.Sorted.{IsPermutation}
use Rattle.scc_common.specs.Contents.{bucket_count, entries, hash_in, minimum_of, settings_of}
use Rattle.scc_common.specs.Sizes.{IsArraySize, IsBucketCount}
use Rattle.scc_buckets.proofs.Resizes.{reaches-after}
use Rattle.scc_table.proofs.arrays.CurrentParts.{settings-seen}
use Rattle.scc_table.proofs.resizes.Attempts.{growth-due_after, spreads-after}
use Rattle.scc_table.proofs.Table.raise_minimum.Goals as goal

pub returns : goal.returns
returns g c =
    record {
      answer = (search rules);
      yes = (
          let t = c.self.inside in
          let a = c.args.self.now in
          let d = c.grow_to_minimum.new.self in
          let hk = hash_in g.H.Hashes.hash_of t.current in
          let hash = λ (e : g.row.E.Denot). hk (g.E.Keyed.key_of e) in
          let set = settings-seen hash t.current t.draining.waiting.items t.draining.array a c.self.view_is in
          let left : c.reserved.result ≡ (settings_of a).reserved = c.reserved.ensures.value ∙ ap (λ s. s.reserved) set in
          let e = c.set_reserved.ensures in
          let r = c.grow_to_minimum.ensures in
          let raised = e.settings ∙ ap (λ n. record (settings_of a) { reserved = n + c.args.additional }) left in
          λ _. record {
            holds = record {
              same = subst (λ es. IsPermutation es (entries d)) e.entries r.resizes.same;
              lawful = subst (λ n. (bucket_count d ≡ n) ⊎ IsBucketCount (bucket_count d)) e.buckets r.resizes.size.lawful;
              minimum = λ less. subst (λ s. s.asked + s.reserved ≤ 32 * bucket_count d) raised (r.resizes.size.minimum (omega (arith, less, e.buckets)));
              settings = r.resizes.settings ∙ raised;
            };
            more = omega (arith, r.more, e.buckets);
            size = λ ne.
                let z = r.size (λ same. ne (same ∙ e.buckets)) in
                (omega (arith, z.0, e.buckets), subst (λ s. IsArraySize (s.asked + s.reserved) (32 * bucket_count d)) (sym r.resizes.settings) z.1);
          });
      due = (λ _. reaches-after c.args.self.now c.set_reserved.new.self c.grow_to_minimum.new.self c.set_reserved.ensures.buckets c.set_reserved.ensures.noted c.grow_to_minimum.ensures.due);
      spreads = (
          let a = c.args.self.now in
          let b = c.set_reserved.new.self in
          let d = c.grow_to_minimum.new.self in
          let e = c.set_reserved.ensures in
          let same = ap (λ s. s.asked + s.reserved) (sym c.grow_to_minimum.ensures.resizes.settings) in
          λ _. spreads-after a b d e.buckets e.waiting e.owed (growth-due_after (minimum_of b) (minimum_of d) a b same e.buckets) c.grow_to_minimum.ensures.spreads);
      no = (search rules);
      noted = (search rules);
      waiting = (search rules);
      unique = (search rules);
    }

pub overflow_add-reserved : goal.overflow_add-reserved
overflow_add-reserved g c =
    let t = c.self.inside in
    let hk = hash_in g.H.Hashes.hash_of t.current in
    let hash = λ (e : g.row.E.Denot). hk (g.E.Keyed.key_of e) in
    let set = settings-seen hash t.current t.draining.waiting.items t.draining.array c.args.self.now c.self.view_is in
    let left : c.reserved.result ≡ (settings_of c.args.self.now).reserved = c.reserved.ensures.value ∙ ap (λ s. s.reserved) set in
    record { fits = let m = c.minimum-minimum.ensures in omega arith }

pub set_reserved-requires : goal.set_reserved-requires
set_reserved-requires g c =
    let t = c.self.inside in
    let hk = hash_in g.H.Hashes.hash_of t.current in
    let hash = λ (e : g.row.E.Denot). hk (g.E.Keyed.key_of e) in
    let set = settings-seen hash t.current t.draining.waiting.items t.draining.array c.args.self.now c.self.view_is in
    let left : c.reserved.result ≡ (settings_of c.args.self.now).reserved = c.reserved.ensures.value ∙ ap (λ s. s.reserved) set in
    omega arith
