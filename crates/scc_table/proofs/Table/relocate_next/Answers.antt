use Rattle.std.proofs.Common.{◌≡◌, ◌∙◌, ◌<◌, ◌≤◌, length, subst, arith}
use Rattle.std.proofs.lemmas.Result.{on_err_weaker, on_ok_weaker}
use Rattle.scc_buckets.specs.Bounded.{IsBounded}
use Rattle.scc_common.specs.Contents.{hash_in, list_of}
use Rattle.scc_table.specs.TwoArrays.{IsFirstWaiting, IsRelocated, together}
use Rattle.scc_table.proofs.arrays.Views.{pending-seen, waiting-seen}
use Rattle.scc_table.proofs.Table.relocate_next.Goals as goal

pub advance-bucket-requires-clause-some : goal.advance-bucket-requires-clause-some
advance-bucket-requires-clause-some g c =
    let t = c.self.inside in
    let counted = pending-seen _ t.current t.draining.waiting.items t.draining.array c.args.self.now c.self.view_is in
    omega (arith, counted, c.requires)

pub advance-bucket-requires-clause-below : goal.advance-bucket-requires-clause-below
advance-bucket-requires-clause-below g c = c.self.invariant.below

pub invariant_of-self : goal.invariant_of-self
invariant_of-self g c =
    let inv = c.self.invariant in
    rw c.advance-bucket.ensures.others (record {
      arrays = inv.arrays;
      counted = inv.counted;
      none = inv.none;
      given_back = inv.given_back;
      nothing_left = inv.nothing_left;
      below = c.advance-bucket.ensures.first.below;
      left_is = inv.left_is;
      overflow_is = inv.overflow_is;
      few = inv.few;
      unique = inv.unique;
    })

pub relocate-requires : goal.relocate-requires
relocate-requires g c =
    let t = c.self.inside in
    let flags = waiting-seen _ t.current t.draining.waiting.items t.draining.array _ c.self.view_is in
    rw c.advance-bucket.ensures.others (rw c.self.view_is (rw flags c.advance-bucket.ensures.first.waits))

pub returns-clause-ok : goal.returns-clause-ok
returns-clause-ok g c =
    let t = c.self.inside in
    let flags = waiting-seen _ t.current t.draining.waiting.items t.draining.array _ c.self.view_is in
    let first : IsFirstWaiting c.args.self.now c.advance-bucket.result = rw flags c.advance-bucket.ensures.first in
    let same : together (λ e. hash_in g.H.Hashes.hash_of t.current (g.E.Keyed.key_of e)) t.current c.advance-bucket.new.self.waiting.items c.advance-bucket.new.self.array ≡ c.args.self.now = rw c.advance-bucket.ensures.others c.self.view_is in
    on_ok_weaker c.relocate.result (λ moved. (c.advance-bucket.result, first, subst (λ z. IsRelocated c.advance-bucket.result z c.relocate.new.self) same moved)) c.relocate.ensures.ok

pub returns-clause-err : goal.returns-clause-err
returns-clause-err g c =
    let t = c.self.inside in
    let same : together (λ e. hash_in g.H.Hashes.hash_of t.current (g.E.Keyed.key_of e)) t.current c.advance-bucket.new.self.waiting.items c.advance-bucket.new.self.array ≡ c.args.self.now = rw c.advance-bucket.ensures.others c.self.view_is in
    on_err_weaker c.relocate.result (λ back. back ∙ same) c.relocate.ensures.err

pub returns-clause-refused : goal.returns-clause-refused
returns-clause-refused g c =
    let t = c.self.inside in
    let flags = waiting-seen _ t.current t.draining.waiting.items t.draining.array _ c.self.view_is in
    let first : IsFirstWaiting c.args.self.now c.advance-bucket.result = rw flags c.advance-bucket.ensures.first in
    let same : together (λ e. hash_in g.H.Hashes.hash_of t.current (g.E.Keyed.key_of e)) t.current c.advance-bucket.new.self.waiting.items c.advance-bucket.new.self.array ≡ c.args.self.now = rw c.advance-bucket.ensures.others c.self.view_is in
    on_err_weaker c.relocate.result (λ many. (c.advance-bucket.result, first, subst (λ z. 32 < length (list_of z c.advance-bucket.result)) same many)) c.relocate.ensures.refused

pub returns-clause-bounded : goal.returns-clause-bounded
returns-clause-bounded g c =
    let t = c.self.inside in
    let flags = waiting-seen _ t.current t.draining.waiting.items t.draining.array _ c.self.view_is in
    let first : IsFirstWaiting c.args.self.now c.advance-bucket.result = rw flags c.advance-bucket.ensures.first in
    let same : together (λ e. hash_in g.H.Hashes.hash_of t.current (g.E.Keyed.key_of e)) t.current c.advance-bucket.new.self.waiting.items c.advance-bucket.new.self.array ≡ c.args.self.now = rw c.advance-bucket.ensures.others c.self.view_is in
    λ none short.
    subst (λ z. IsBounded z → length (list_of z c.advance-bucket.result) ≤ 32 → IsBounded c.relocate.new.self) same c.relocate.ensures.bounded none (short.short c.advance-bucket.result first.waits)
