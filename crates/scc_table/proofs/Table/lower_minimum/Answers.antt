use Rattle.std.proofs.Common.{◌≡◌, ◌+◌, ◌-◌, ◌∙◌, rules, ap, sym, subst, arith}
use Rattle.scc_common.specs.Contents.{Contents, IsUniqueBy, Settings, bucket_count, hash_in, settings_of, minimum_of}
use Rattle.scc_table.proofs.arrays.CurrentParts.{settings-seen}
use Rattle.scc_buckets.proofs.Resizes.{smaller-by, shrinks-after}
use Rattle.scc_table.proofs.resizes.Attempts.{shrink-due_after, spreads-after}
use Rattle.scc_table.proofs.Table.lower_minimum.Goals as goal

pub returns : goal.returns
returns g c =
    let t = c.self.inside in
    let hk = hash_in g.H.Hashes.hash_of t.current in
    let hash = λ (e : g.row.E.Denot). hk (g.E.Keyed.key_of e) in
    record {
      answer = (
          let set = settings-seen hash t.current t.draining.waiting.items t.draining.array c.args.self.now c.self.view_is in
          let left : c.reserved-reserved.result ≡ (settings_of c.args.self.now).reserved = c.reserved-reserved.ensures.value ∙ ap (λ s. s.reserved) set in
          search rules);
      yes = (
          let set = settings-seen hash t.current t.draining.waiting.items t.draining.array c.args.self.now c.self.view_is in
          let left : c.reserved-reserved.result ≡ (settings_of c.args.self.now).reserved = c.reserved-reserved.ensures.value ∙ ap (λ s. s.reserved) set in
          let set : settings_of c.set_reserved.new.self ≡ record (settings_of c.args.self.now) { reserved = (settings_of c.args.self.now).reserved - c.args.additional } =
          c.set_reserved.ensures.settings ∙ ap (λ r. let s : Settings g.row.H.Denot = record (settings_of c.args.self.now) { reserved = r - c.args.additional } in s) left in
          let r = c.shrink.ensures.resizes in
          let minimum : minimum_of c.set_reserved.new.self ≡ (settings_of c.args.self.now).asked + ((settings_of c.args.self.now).reserved - c.args.additional) = ap (λ s. s.asked + s.reserved) set in
          λ _. record {
            holds = record {
              same = rw c.set_reserved.ensures.entries at r.same;
              lawful = rw c.set_reserved.ensures.buckets at r.size.lawful;
              minimum = λ less. let m = r.size.minimum (omega (arith, c.set_reserved.ensures.buckets)) in omega arith;
              settings = r.settings ∙ set;
            };
            smaller = smaller-by c.set_reserved.new.self c.shrink.new.self (minimum_of c.shrink.new.self) (bucket_count c.args.self.now) c.shrink.ensures.shrinks (sym (ap (λ s. s.asked + s.reserved) r.settings)) c.set_reserved.ensures.buckets;
          });
      due = (λ _. shrinks-after c.args.self.now c.set_reserved.new.self c.shrink.new.self c.set_reserved.ensures.buckets c.set_reserved.ensures.noted c.shrink.ensures.due);
      spreads = (
          let a = c.args.self.now in
          let b = c.set_reserved.new.self in
          let d = c.shrink.new.self in
          let e = c.set_reserved.ensures in
          let same = ap (λ s. s.asked + s.reserved) (sym c.shrink.ensures.resizes.settings) in
          λ _. spreads-after a b d e.buckets e.waiting e.owed (shrink-due_after (minimum_of b) (minimum_of d) a b same e.buckets e.entries) c.shrink.ensures.spreads);
      no = (search rules);
      noted = (search rules);
      waiting = (search rules);
      unique = (search rules);
    }

pub set_reserved-requires : goal.set_reserved-requires
set_reserved-requires g c =
    let t = c.self.inside in
    let hk = hash_in g.H.Hashes.hash_of t.current in
    let hash = λ (e : g.row.E.Denot). hk (g.E.Keyed.key_of e) in
    let set = settings-seen hash t.current t.draining.waiting.items t.draining.array c.args.self.now c.self.view_is in
    let left : c.reserved-reserved.result ≡ (settings_of c.args.self.now).reserved = c.reserved-reserved.ensures.value ∙ ap (λ s. s.reserved) set in
    let most = c.reserved-reserved.ensures.most in
    let asked = ap (λ s. s.asked) set in
    omega arith

pub returns-then-additional-reserved : goal.returns-then-additional-reserved
returns-then-additional-reserved g c =
    record {
      answer = (
          let t = c.self.inside in
          let hk = hash_in g.H.Hashes.hash_of t.current in
          let hash = λ (e : g.row.E.Denot). hk (g.E.Keyed.key_of e) in
          let set = settings-seen hash t.current t.draining.waiting.items t.draining.array c.args.self.now c.self.view_is in
          let left : c.reserved-reserved.result ≡ (settings_of c.args.self.now).reserved = c.reserved-reserved.ensures.value ∙ ap (λ s. s.reserved) set in
          search rules);
      yes = (search rules);
      due = (search rules);
      spreads = (search rules);
      no = (search rules);
      noted = (search rules);
      waiting = (search rules);
      unique = (subst (λ (z : Contents g.row.E.Denot g.row.H.Denot). IsUniqueBy g.E.Key.PartialEq.eq g.E.Keyed.key_of z) c.self.view_is c.self.invariant.unique);
    }
