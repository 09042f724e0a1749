use Rattle.std.proofs.Common.{◌∙◌, ℕ, sym, subst}
use Rattle.scc_buckets.specs.Bounded.{IsListed}
use Rattle.scc_common.specs.Contents.{hash_in}
use Rattle.scc_table.proofs.arrays.SameParts.{entries-same, count-same, listed-same, hash-same}
use Rattle.scc_table.proofs.Table.new.Goals as goal

pub returns : goal.returns
returns g c =
    record {
      entries = (entries-same c.new.result c.over.result c.over.ensures.lists ∙ c.new.ensures.entries);
      listed = (
          let hash = hash-same g.H.Hashes.hash_of c.new.result c.over.result c.over.ensures.settings in
          subst (λ (h : g.row.E-Key.Denot → ℕ). IsListed (λ e. h (g.E.Keyed.key_of e)) c.over.result) (sym hash)
          (listed-same c.new.result c.over.result c.over.ensures.lists (λ e. hash_in g.H.Hashes.hash_of c.new.result (g.E.Keyed.key_of e)) c.over.ensures.settings c.over.ensures.spilled c.new.ensures.listed));
      buckets = (count-same c.new.result c.over.result c.over.ensures.lists ∙ c.new.ensures.buckets);
      settings = (c.over.ensures.settings ∙ c.new.ensures.settings);
      noted = (c.over.ensures.noted ∙ c.new.ensures.noted);
      waiting = c.over.ensures.waiting;
    }
