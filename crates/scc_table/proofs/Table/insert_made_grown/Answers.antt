use Rattle.std.proofs.Common.{arith, rules}
use Rattle.scc_table.proofs.arrays.SameParts.{count-same, unchanged-same}
use Rattle.scc_table.proofs.Table.insert_made_grown.Goals as goal

pub returns-in-Ok : goal.returns-in-Ok
returns-in-Ok g c =
    record {
      ok = (search rules);
      buckets = (search rules);
      doubled = (search rules);
      same = (let n = c.insert_grown.ensures.buckets in λ z. absurd (omega (arith, c.requires.more)));
      grown = (search rules);
      lowered = (λ _. c.insert_grown.ensures.lowered);
      denied = (let n = c.insert_grown.ensures.buckets in λ z. absurd (omega (arith, c.requires.more)));
      most = (search rules);
      spread = (search rules);
      drained = (search rules);
      not_waiting = (search rules);
      err = (search rules);
      unique = (search rules);
    }

pub returns-in-Err : goal.returns-in-Err
returns-in-Err g c =
    record {
      ok = (search rules);
      buckets = (search rules);
      doubled = (λ ne. absurd (ne (count-same c.args.self.now c.note.new.self c.note.ensures.lists)));
      same = (λ _. c.note.ensures.waiting);
      grown = (λ ne. absurd (ne (count-same c.args.self.now c.note.new.self c.note.ensures.lists)));
      lowered = (λ ne. absurd (ne (count-same c.args.self.now c.note.new.self c.note.ensures.lists)));
      denied = (λ _. c.note.ensures.noted);
      most = (search rules);
      spread = (search rules);
      drained = (search rules);
      not_waiting = (search rules);
      err = ((c.in-Err.ensures.err, unchanged-same c.args.self.now c.note.new.self c.note.ensures.lists c.note.ensures.settings));
      unique = (search rules);
    }
