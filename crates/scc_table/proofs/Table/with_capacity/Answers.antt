use Rattle.std.proofs.Common.{◌∙◌, ℕ, sym, subst, rules}
use Rattle.scc_buckets.specs.Bounded.{IsListed}
use Rattle.scc_common.specs.Contents.{hash_in}
use Rattle.scc_table.proofs.arrays.SameParts.{entries-same, count-same, listed-same, hash-same}
use Rattle.scc_table.proofs.Table.with_capacity.Goals as goal

pub returns-in-Ok : goal.returns-in-Ok
returns-in-Ok g c =
    let count = count-same c.in-Ok.current c.over.result c.over.ensures.lists in
    record {
      entries = (entries-same c.in-Ok.current c.over.result c.over.ensures.lists ∙ c.in-Ok.ensures.entries);
      listed = (
          let hash = hash-same g.H.Hashes.hash_of c.in-Ok.current c.over.result c.over.ensures.settings in
          subst (λ (h : g.row.E-Key.Denot → ℕ). IsListed (λ e. h (g.E.Keyed.key_of e)) c.over.result) (sym hash)
          (listed-same c.in-Ok.current c.over.result c.over.ensures.lists (λ e. hash_in g.H.Hashes.hash_of c.in-Ok.current (g.E.Keyed.key_of e)) c.over.ensures.settings c.over.ensures.spilled c.in-Ok.ensures.listed));
      none = (λ z. count ∙ c.in-Ok.ensures.none z);
      size = (λ z. rw count (c.in-Ok.ensures.size z));
      settings = (rw count (c.over.ensures.settings ∙ c.in-Ok.ensures.settings));
      succeeds = (search rules);
      noted = (c.over.ensures.noted ∙ c.in-Ok.ensures.noted);
      waiting = c.over.ensures.waiting;
    }
