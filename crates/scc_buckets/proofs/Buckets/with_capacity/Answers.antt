use Rattle.std.proofs.Common.{rules, refl, arith, inr, length}
use Rattle.scc_common.specs.Sizes.{IsLawful}
use Rattle.scc_common.specs.Contents.{notes_of, settings_of, waiting_of}
use Rattle.scc_buckets.proofs.Bounds.{bounded-fresh, listed-view}
use Rattle.scc_buckets.proofs.MakingLemmas.{kept-fresh, entries-fresh, table-empty}
use Rattle.scc_buckets.proofs.Views.{count-view}
use Rattle.scc_buckets.proofs.Buckets.with_capacity.Goals as goal

pub invariant_of-result : goal.invariant_of-result
invariant_of-result g c =
    rw c.new-in-Ok.ensures (kept-fresh _ _ _ c.args.skipped _ c.buckets_for-count.result 0 0 c.in-Ok.buckets c.in-Ok.ensures.empty c.in-Ok.ensures.count c.buckets_for-count.ensures.array (omega (arith, c.buckets_for-count.ensures.array.most)) refl refl)

pub returns-in-Ok : goal.returns-in-Ok
unfolding settings_of notes_of waiting_of
returns-in-Ok g c =
    record {
      entries = (entries-fresh c.in-Ok.buckets _ _ c.in-Ok.ensures.empty);
      listed = (
          let bs = c.in-Ok.buckets in
          let lawful : IsLawful (length bs) = inr (rw c.in-Ok.ensures.count c.buckets_for-count.ensures.array) in
          rw c.new-in-Ok.ensures (listed-view _ 0 0 bs _ _ refl (table-empty (λ e. g.H.Hashes.hash_of c.args.hasher (g.E.Keyed.key_of e)) c.args.skipped bs c.in-Ok.ensures.empty lawful) (bounded-fresh _ bs _ c.in-Ok.ensures.empty)));
      none = (search rules);
      size = (λ _. rw (count-view c.in-Ok.buckets _ _ refl, c.in-Ok.ensures.count) c.buckets_for-count.ensures.size);
      settings = (rw (c.new-in-Ok.ensures, count-view c.in-Ok.buckets _ _ refl, c.in-Ok.ensures.count) refl);
      succeeds = (search rules);
      noted = refl;
      waiting = refl;
    }
