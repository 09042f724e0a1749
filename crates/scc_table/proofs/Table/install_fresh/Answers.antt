use Rattle.std.proofs.Common.{◌∙◌, sym, subst, rules}
use Rattle.std.specs.List.Sorted.{IsPermutation}
use Rattle.scc_common.specs.Contents.{entries}
use Rattle.scc_table.proofs.arrays.SameParts.{entries-same, regrouped-same, pending-same}
use Rattle.scc_table.proofs.Table.install_fresh.Goals as goal

pub returns-in-Ok : goal.returns-in-Ok
returns-in-Ok g c =
    record {
      lists = (regrouped-same _ c.args.count c.args.self.now c.install.new.self c.note.new.self c.note.ensures.lists c.note.ensures.settings c.install.ensures.lists);
      same = (subst (λ es. IsPermutation (entries c.args.self.now) es) (sym (entries-same c.install.new.self c.note.new.self c.note.ensures.lists)) c.install.ensures.same);
      waiting = (search rules);
      pending = (pending-same c.install.new.self c.note.new.self c.note.ensures.waiting ∙ c.install.ensures.pending);
      down = (search rules);
      err = (search rules);
      settings = (search rules);
      stays = (search rules);
      bounded = (λ none. c.note.ensures.spilled ∙ c.install.ensures.bounded none);
      up = (search rules);
      unmarked = (search rules);
      unique = (search rules);
    }

pub returns-in-Err : goal.returns-in-Err
returns-in-Err g c =
    record {
      lists = (search rules);
      same = (search rules);
      waiting = (search rules);
      pending = (search rules);
      down = (search rules);
      err = (search rules);
      settings = (search rules);
      stays = (search rules);
      bounded = (λ none. c.note-in-Err.ensures.spilled ∙ none);
      up = (search rules);
      unmarked = (search rules);
      unique = (search rules);
    }
