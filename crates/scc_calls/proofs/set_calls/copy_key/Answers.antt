use Rattle.std.proofs.Common.{refl}
use Rattle.scc_common.specs.Contents.{entries}
use Rattle.scc_owned_set.specs.Keys.{find}
use Rattle.scc_calls.specs.declared.replies.Reply.TheVariants.{Key}
use Rattle.scc_calls.proofs.Copying.{copied_whole}
use Rattle.scc_calls.proofs.set_calls.copy_key.Goals as goal

pub returns-clause-ok : goal.returns-clause-ok
returns-clause-ok g c = copied_whole c.requires.clones Key _ refl (λ x y h. h) (find g.K.PartialEq.eq (entries c.args.set.now) c.args.k.now) c.in_ok-cloned_key.field-0 c.in_ok-cloned_key.ensures.ok
