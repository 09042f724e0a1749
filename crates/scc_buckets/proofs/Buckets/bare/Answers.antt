use Rattle.std.proofs.Common.{refl, arith, inl, []}
use Rattle.scc_common.specs.Contents.{entries, bucket_count, notes_of, settings_of, waiting_of}
use Rattle.scc_buckets.proofs.Bounds.{bounded-fresh, listed-view}
use Rattle.scc_buckets.proofs.MakingLemmas.{kept-none, none-empty, table-empty}
use Rattle.scc_buckets.proofs.Buckets.bare.Goals as goal

pub invariant_of-result : goal.invariant_of-result
invariant_of-result g c = rw c.none.ensures (kept-none _ _ _ c.args.router.skipped 0 (omega arith))

pub returns : goal.returns
unfolding entries bucket_count settings_of notes_of waiting_of
returns g c =
    record {
      entries = (rw c.none.ensures refl);
      listed = (rw c.none.ensures ((listed-view _ 0 0 [] _ _ refl (table-empty (λ e. g.H.Hashes.hash_of c.args.router.hasher (g.E.Keyed.key_of e)) c.args.router.skipped [] none-empty (inl refl)) (bounded-fresh _ [] _ none-empty))));
      buckets = (rw c.none.ensures refl);
      settings = refl;
      noted = refl;
      waiting = refl;
    }
