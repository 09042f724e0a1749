use Rattle.std.proofs.Common.{◌∙◌, refl, sym, arith}
use Rattle.std.proofs.lemmas.Result.{on_err_weaker}
use Rattle.std.proofs.lemmas.Bool.Decides.{nat_tests}
use Rattle.scc_common.specs.Contents.{key_hash}
use Rattle.scc_buckets.proofs.PairSplits.{by_answer}
use Rattle.scc_owned_cache.specs.CacheSteps.{pair_of}
use Rattle.scc_calls.specs.declared.replies.Reply.TheVariants.{Exists, Old, Key, Pair, Value}
use Rattle.scc_calls.proofs.CacheReplies.{count-lists, put-new, put-there, told-there}
use Rattle.scc_calls.proofs.Runs.{when_err}
use Rattle.scc_calls.proofs.Copying.{copied, copied_whole}
use Rattle.scc_calls.proofs.cache_calls.OwnedCopiesReply.copy.Goals as goal

pub returns-in-None-clause-ok : goal.returns-in-None-clause-ok
returns-in-None-clause-ok g c =
    let new = put-new (key_hash g.H.BuildHasher g.H.Hasher.Hasher g.K.Hash.hash_input c.args.self.now.contents) g.K.PartialEq.eq c.args.self.now.contents c.in-Put.k c.in-Put.v (rw (c.in-Put.is, c.in-None.is) at c.requires.known) in
    rw c.in-Put.is (rw new c.copy_evicted.ensures.ok)

pub returns-in-None-clause-refused : goal.returns-in-None-clause-refused
returns-in-None-clause-refused g c =
    let new = put-new (key_hash g.H.BuildHasher g.H.Hasher.Hasher g.K.Hash.hash_input c.args.self.now.contents) g.K.PartialEq.eq c.args.self.now.contents c.in-Put.k c.in-Put.v (rw (c.in-Put.is, c.in-None.is) at c.requires.known) in
    rw c.in-Put.is (rw new (on_err_weaker c.copy_evicted.result (λ h. (refl, h)) c.copy_evicted.ensures.refused))

pub returns-in_err-key-in-Some-clause-refused : goal.returns-in_err-key-in-Some-clause-refused
returns-in_err-key-in-Some-clause-refused g c =
    let found = rw (c.in-Put.is, c.in-Some.is) at c.requires.known in
    let there = put-there (key_hash g.H.BuildHasher g.H.Hasher.Hasher g.K.Hash.hash_input c.args.self.now.contents) g.K.PartialEq.eq c.args.self.now.contents c.in-Put.k c.in-Put.v (found.pair, (_, found.there)) in
    when_err c.from_residual.result (rw c.in-Put.is refl, rw c.in-Put.is (rw there (λ h. c.in_err-key-in-Some.ensures.refused (h.0, h.1))))

pub returns-in_ok-key-in-Some-clause-ok : goal.returns-in_ok-key-in-Some-clause-ok
returns-in_ok-key-in-Some-clause-ok g c =
    let found = rw (c.in-Put.is, c.in-Some.is) at c.requires.known in
    let there = put-there (key_hash g.H.BuildHasher g.H.Hasher.Hasher g.K.Hash.hash_input c.args.self.now.contents) g.K.PartialEq.eq c.args.self.now.contents c.in-Put.k c.in-Put.v (found.pair, (_, found.there)) in
    rw c.in-Put.is (rw there (c.requires.clones (Exists c.in-Put.k c.in-Put.v) (Exists c.in_ok-key-in-Some.key c.in_ok-key-in-Some.value) c.in_ok-key-in-Some.ensures.ok))

pub returns-in_ok-cloned_value-in-Get-clause-ok : goal.returns-in_ok-cloned_value-in-Get-clause-ok
returns-in_ok-cloned_value-in-Get-clause-ok g c = rw c.in-Get.is (copied c.requires.clones Value _ (λ p. p.1) refl (λ x y h. h) (pair_of (key_hash g.H.BuildHasher g.H.Hasher.Hasher g.K.Hash.hash_input c.args.self.now.contents) g.K.PartialEq.eq c.args.self.now.contents c.in-Get.k) c.in_ok-cloned_value-in-Get.field-0 c.in_ok-cloned_value-in-Get.ensures.ok)

pub returns-in_ok-cloned_value-in-Write-clause-ok : goal.returns-in_ok-cloned_value-in-Write-clause-ok
returns-in_ok-cloned_value-in-Write-clause-ok g c = rw c.in-Write.is (copied c.requires.clones Old _ (λ p. p.1) refl (λ x y h. h) (pair_of (key_hash g.H.BuildHasher g.H.Hasher.Hasher g.K.Hash.hash_input c.args.self.now.contents) g.K.PartialEq.eq c.args.self.now.contents c.in-Write.k) c.in_ok-cloned_value-in-Write.field-0 c.in_ok-cloned_value-in-Write.ensures.ok)

pub returns-in_ok-cloned_key-in-Replace-clause-ok : goal.returns-in_ok-cloned_key-in-Replace-clause-ok
returns-in_ok-cloned_key-in-Replace-clause-ok g c = rw c.in-Replace.is (copied c.requires.clones Key _ (λ p. p.0) refl (λ x y h. h) (pair_of (key_hash g.H.BuildHasher g.H.Hasher.Hasher g.K.Hash.hash_input c.args.self.now.contents) g.K.PartialEq.eq c.args.self.now.contents c.in-Replace.k) c.in_ok-cloned_key-in-Replace.field-0 c.in_ok-cloned_key-in-Replace.ensures.ok)

pub returns-in_ok-cloned_pair-in-Remove-clause-ok : goal.returns-in_ok-cloned_pair-in-Remove-clause-ok
returns-in_ok-cloned_pair-in-Remove-clause-ok g c = rw c.in-Remove.is (copied_whole c.requires.clones Pair _ refl (λ x y h. h) (pair_of (key_hash g.H.BuildHasher g.H.Hasher.Hasher g.K.Hash.hash_input c.args.self.now.contents) g.K.PartialEq.eq c.args.self.now.contents c.in-Remove.k) c.in_ok-cloned_pair-in-Remove.field-0 c.in_ok-cloned_pair-in-Remove.ensures.ok)

pub returns-in_ok-cloned_value-in-Read-clause-ok : goal.returns-in_ok-cloned_value-in-Read-clause-ok
returns-in_ok-cloned_value-in-Read-clause-ok g c = rw c.in-Read.is (copied c.requires.clones Value _ (λ p. p.1) refl (λ x y h. h) (pair_of (key_hash g.H.BuildHasher g.H.Hasher.Hasher g.K.Hash.hash_input c.args.self.now.contents) g.K.PartialEq.eq c.args.self.now.contents c.in-Read.k) c.in_ok-cloned_value-in-Read.field-0 c.in_ok-cloned_value-in-Read.ensures.ok)

pub returns-in-Contains-clause-ok : goal.returns-in-Contains-clause-ok
returns-in-Contains-clause-ok g c =
    let told = told-there (key_hash g.H.BuildHasher g.H.Hasher.Hasher g.K.Hash.hash_input c.args.self.now.contents) g.K.PartialEq.eq c.args.self.now.contents c.in-Contains.k c.contains_sync.result c.contains_sync.ensures.yes c.contains_sync.ensures.no in
    rw (c.in-Contains.is, told) (by_answer c.contains_sync.result (λ y. rw y refl) (λ n. rw n refl))

pub returns-in-Len-clause-ok : goal.returns-in-Len-clause-ok
returns-in-Len-clause-ok g c =
    let e = c.len.ensures.len ∙ sym (count-lists c.args.self.now.contents) in
    rw c.in-Len.is (grind (arith, nat_tests, e))
