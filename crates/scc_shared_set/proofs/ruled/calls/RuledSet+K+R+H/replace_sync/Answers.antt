use Rattle.scc_common.specs.Contents.{entries}
use Rattle.scc_table.proofs.places.Replies.{find-key}
use Rattle.scc_shared_set.proofs.ruled.calls.RuledSet+K+R+H.replace_sync.Goals as goal

pub returns-in-Replaced-clause-old : goal.returns-in-Replaced-clause-old
returns-in-Replaced-clause-old g c =
    let x = c.in-Replaced.ensures.step in
    let same = find-key g.K.PartialEq.eq (entries x.0) c.args.k (c.in-Replaced.old, x.1.0) x.1.1 in
    (same, g.met.R.Rule.alike c.args.k c.in-Replaced.old tt same c.requires)
