use Rattle.std.proofs.Common.{Some}
use Rattle.scc_common.specs.Contents.{key_hash}
use Rattle.scc_calls.specs.declared.replies.Reply.TheVariants.{Evicted}
use Rattle.scc_calls.proofs.CacheReplies.{drives-out}
use Rattle.scc_calls.proofs.cache_calls.copy_evicted.Goals as goal

pub returns-in_ok-pair-in-Some-clause-ok : goal.returns-in_ok-pair-in-Some-clause-ok
returns-in_ok-pair-in-Some-clause-ok g c =
    let out = drives-out (key_hash g.H.BuildHasher g.H.Hasher.Hasher g.K.Hash.hash_input c.args.cache.now.contents) g.K.PartialEq.eq c.args.cache.now.contents c.args.k.now (c.in-Some.key.now, c.in-Some.value.now) c.in-Some.ensures.some in
    rw out (c.requires.clones (Evicted (Some (c.in-Some.key.now, c.in-Some.value.now))) (Evicted (Some c.in_ok-pair-in-Some.pair)) c.in_ok-pair-in-Some.ensures.ok)
