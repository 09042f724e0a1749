use Rattle.std.proofs.Common.{true, false, Some, refl, ap, subst, rules}
use Rattle.std.specs.Fn.{FnOnceReturnsAtMut}
use Rattle.scc_common.specs.Contents.{lists_of}
use Rattle.scc_common.specs.Hashing.{hash_of}
use Rattle.scc_common.specs.Pairs.{with_pair_value, IsUnique}
use Rattle.scc_table.specs.Placed.{IsPlace-with_write_at}
use Rattle.scc_table.specs.Places.{spot_of}
use Rattle.scc_owned_cache.specs.Lends.{with_value_at}
use Rattle.scc_owned_cache.specs.Relocations.{RelocatesNoneWithin}
use Rattle.scc_owned_cache.proofs.Kept.{kept-at}
use Rattle.scc_owned_cache.proofs.Relocations.{kept-none, none-after, waiting-written}
use Rattle.scc_owned_cache.proofs.Replies.{there-equal}
use Rattle.scc_owned_cache.proofs.Writing.{written-count, written-settings}
use Rattle.scc_owned_cache.specs.CacheWalks.{declined, removed}
use Rattle.scc_owned_cache.proofs.Caching.{shows-pair}
use Rattle.scc_owned_cache.proofs.Entries.{changes-value}
use Rattle.scc_owned_cache.proofs.Removing.{found-pair, removed-pair, takes-written, tested-kept, tested-missing, tested-removed}
use Rattle.scc_owned_cache.proofs.Owned.remove_if_sync.Goals as goal

pub modify_at-requires-clause-callable : goal.modify_at-requires-clause-callable
modify_at-requires-clause-callable g c = λ p got kept. c.requires.callable p (shows-pair _ g.K.PartialEq.eq c.args.self.now.contents c.args.k.now c.in_ok-place.place p c.in_ok-place.ensures got) kept

pub modify_at-requires-clause-keeps : goal.modify_at-requires-clause-keeps
modify_at-requires-clause-keeps g c = λ p b w got kept gives. c.requires.keeps p b w (shows-pair _ g.K.PartialEq.eq c.args.self.now.contents c.args.k.now c.in_ok-place.place p c.in_ok-place.ensures got) kept gives

pub remove_at-requires : goal.remove_at-requires
remove_at-requires g c = let s = c.if-modify_at.ensures.step in rw s.4 (IsPlace-with_write_at with_pair_value c.args.self.now.contents c.in_ok-place.place s.1 c.in_ok-place.ensures.within)

pub returns-in_err-place-clause-removes : goal.returns-in_err-place-clause-removes
returns-in_err-place-clause-removes g c =
    record {
      step = (search rules);
      finds = rw c.from_residual.ensures (tested-missing c.args.self.now.contents c.args.k.now g.F.FnOnce c.args.f c.in_err-place.ensures);
      state = (search rules);
      relocates = (search rules);
      rests = (search rules);
    }

pub returns-then-modify_at : goal.returns-then-modify_at
returns-then-modify_at g c =
    let m = c.args.self.now in
    let p = c.in_ok-place.place in
    let f = c.in_ok-place.ensures in
    let s = c.if-modify_at.ensures.step in
    let w = s.1 in
    let same = found-pair m c.args.k.now p f s.0 s.2 in
    let met : FnOnceReturnsAtMut g.F.FnOnce c.args.f f.pair.1 true w = subst (λ (q : g.row.K.Denot × g.row.V.Denot). FnOnceReturnsAtMut g.F.FnOnce c.args.f q.1 true w) same s.3 in
    let pair = removed-pair m c.args.k.now p f w c.remove_at.result (rw s.4 at c.remove_at.ensures.pair) in
    let relocates = rw s.4 at c.remove_at.ensures.relocates in
    let moved = subst (λ s. RelocatesNoneWithin (λ q. hash_of g.H.BuildHasher g.H.Hasher.Hasher s.hasher (g.K.Hash.hash_input q.0)) (with_value_at m p w).contents c.remove_at.new.self.contents) (written-settings with_pair_value m.contents (spot_of m.contents p) f.within w) relocates in
    let equal = there-equal _ g.K.PartialEq.eq (lists_of m.contents) c.args.k.now _ f.pair f.there in
    let found = kept-at g.K.PartialEq.eq g.R.Rule.holds g.met.R.Rule.alike g.met.K.Eq.laws.symm c.args.k.now f.pair equal (subst (λ (q : g.row.K.Denot × g.row.V.Denot). g.R.Rule.holds q.0 q.1) same s.5) in
    record {
      removes = record {
        step = removed f.pair w met (ap Some pair) (takes-written (λ s k. hash_of g.H.BuildHasher g.H.Hasher.Hasher s.hasher (g.K.Hash.hash_input k)) g.K.PartialEq.eq m c.args.k.now p f w c.remove_at.new.self (rw s.4 at c.remove_at.ensures.left));
        finds = tested-removed m.contents c.args.k.now g.F.FnOnce c.args.f g.met.K.Eq.laws p f (subst (λ z. IsUnique g.K.PartialEq.eq z.contents) c.self.view_is c.self.invariant.unique) w met c.remove_at.result pair c.remove_at.new.self.contents (rw s.4 at c.remove_at.ensures.finds);
        state = c.remove_at.ensures.state;
        relocates = none-after _ m.contents (with_value_at m p w).contents c.remove_at.new.self.contents (written-count with_pair_value m.contents (spot_of m.contents p) f.within w) (waiting-written m p w) moved;
        rests = (search rules);
      };
      kept = kept-at g.K.PartialEq.eq g.R.Rule.holds g.met.R.Rule.alike g.met.K.Eq.laws.symm c.args.k.now c.remove_at.result (rw pair equal) c.remove_at.ensures.kept;
      tested = (f.pair.1, found.2, rw pair met);
    }

pub returns-else-modify_at : goal.returns-else-modify_at
returns-else-modify_at g c =
    let m = c.args.self.now in
    let p = c.in_ok-place.place in
    let f = c.in_ok-place.ensures in
    let s = c.if-modify_at.ensures.step in
    let w = s.1 in
    let same = found-pair m c.args.k.now p f s.0 s.2 in
    let met : FnOnceReturnsAtMut g.F.FnOnce c.args.f f.pair.1 false w = subst (λ (q : g.row.K.Denot × g.row.V.Denot). FnOnceReturnsAtMut g.F.FnOnce c.args.f q.1 false w) same s.3 in
    record {
      removes = record {
        step = declined f.pair w met refl (rw s.4 (changes-value _ g.K.PartialEq.eq m c.args.k.now p f w));
        finds = rw s.4 (tested-kept m.contents c.args.k.now g.F.FnOnce c.args.f g.met.K.Eq.laws p f (subst (λ z. IsUnique g.K.PartialEq.eq z.contents) c.self.view_is c.self.invariant.unique) w met);
        state = c.if-modify_at.ensures.state;
        relocates = rw s.4 (kept-none _ m.contents (with_value_at m p w).contents (written-count with_pair_value m.contents (spot_of m.contents p) f.within w) (waiting-written m p w));
        rests = λ none. rw s.4 (waiting-written m p w);
      };
      kept = tt;
      tested = tt;
    }
