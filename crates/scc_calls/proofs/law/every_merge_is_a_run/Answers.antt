use Rattle.scc_common.specs.Routing.{stripe_of}
use Rattle.scc_calls.proofs.Merges.{merges}
use Rattle.scc_calls.proofs.law.every_merge_is_a_run.Goals as goal

pub returns : goal.returns
returns g c g' n opened histories ends entries =
    let m = g.C.Calls in
    let l = g.met.C.Calls in
    merges _ _ _ _ _ _ g' n m.means m.resizes m.empty m.keys m.key_of (λ s n. stripe_of g.C.Hasher.BuildHasher g.C.Hasher.Hasher.Hasher g.C.Key.Hash.hash_input s.hasher n) m.whole m.whole_means m.whole_resizes l.call_is_whole l.resize_is_whole l.call_keeps l.resize_keeps (λ n i b. l.empty_keeps g'.hasher n i b) opened histories ends entries
