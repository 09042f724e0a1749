use Rattle.scc_common.specs.Routing.{stripe_of}
use Rattle.scc_calls.specs.Parted.{parted_call, parted_resize}
use Rattle.scc_calls.proofs.law.every_kind_has_parts.Goals as goal

pub returns-clause-call : goal.returns-clause-call
returns-clause-call g c g' n before after old new call reply key s =
    let m = g.C.Calls in
    parted_call (m.means g') m.key_of (λ k. stripe_of g.C.Hasher.BuildHasher g.C.Hasher.Hasher.Hasher g.C.Key.Hash.hash_input g'.hasher n k) before after old new call reply key s

pub returns-clause-resize : goal.returns-clause-resize
returns-clause-resize g c g' before after old new buckets s = parted_resize (g.C.Calls.resizes g') before after old new buckets s
