use Rattle.std.proofs.Common.{◌∙◌, refl, sym, arith}
use Rattle.scc_array.specs.Shelves.{shelf_of}
use Rattle.scc_buckets.proofs.Arrays.{shelf-at}
use Rattle.scc_buckets.proofs.Inserts.{bucket-bound, table-bound}
use Rattle.scc_buckets.proofs.Lent.{array-lent}
use Rattle.scc_buckets.proofs.Views.{lists-view, owed-view, refused-view, settings-view, spilled-view, waiting-view}
use Rattle.scc_buckets.proofs.Buckets.fill_by.Goals as goal
use Rattle.scc_buckets.specs.Filling.{CalledOnArrays}
use Rattle.scc_buckets.specs.Routes.{route_of}
use Rattle.scc_common.specs.Contents.{hash_in}

pub f-result-requires : goal.f-result-requires
f-result-requires g c =
    let bs = c.self.inside.buckets in let was = c.args.self.now in
    let n = c.self.inside.length in let m = c.self.inside.overflowing in
    let at = settings-view bs _ was c.self.view_is in
    let array = array-lent g.E.Key.PartialEq.eq g.E.Keyed.key_of g.H.Hashes.hash_of bs _ was c.self.view_is c.self.invariant in
    c.requires.takes bs n m array _ _ _ (rw at refl) refl refl

pub bucket_len-moved-requires-clause-bucket : goal.bucket_len-moved-requires-clause-bucket
bucket_len-moved-requires-clause-bucket g c =
    let bs = c.self.inside.buckets in let was = c.args.self.now in
    let n = c.self.inside.length in let m = c.self.inside.overflowing in
    let at = settings-view bs _ was c.self.view_is in
    let array = array-lent g.E.Key.PartialEq.eq g.E.Keyed.key_of g.H.Hashes.hash_of bs _ was c.self.view_is c.self.invariant in
    let now = c.f-result.new.arg3 in
    let called : CalledOnArrays g.F.FnOnce c.args.f (route_of was) bs c.args.old.now c.f-result.result now c.f-result.new.arg4 =
    record { router = _; shows = rw at refl; first = _; is_into = refl; second = _; is_olds = refl; first_left = _; second_left = _; called = c.f-result.ensures; is_filled = refl; is_news = refl } in
    let filled = c.requires.keeps bs now c.f-result.new.arg4 n m c.f-result.result array called in
    filled.within

pub bucket_len-moved-requires-clause-few : goal.bucket_len-moved-requires-clause-few
bucket_len-moved-requires-clause-few g c =
    let bs = c.self.inside.buckets in let was = c.args.self.now in
    let n = c.self.inside.length in let m = c.self.inside.overflowing in
    let at = settings-view bs _ was c.self.view_is in
    let array = array-lent g.E.Key.PartialEq.eq g.E.Keyed.key_of g.H.Hashes.hash_of bs _ was c.self.view_is c.self.invariant in
    let now = c.f-result.new.arg3 in
    let called : CalledOnArrays g.F.FnOnce c.args.f (route_of was) bs c.args.old.now c.f-result.result now c.f-result.new.arg4 =
    record { router = _; shows = rw at refl; first = _; is_into = refl; second = _; is_olds = refl; first_left = _; second_left = _; called = c.f-result.ensures; is_filled = refl; is_news = refl } in
    let filled = c.requires.keeps bs now c.f-result.new.arg4 n m c.f-result.result array called in
    bucket-bound _ _ _ _ c.args.bucket now (shelf_of now c.args.bucket) filled.table filled.within (shelf-at now c.args.bucket filled.within)

pub overflow_add-self : goal.overflow_add-self
overflow_add-self g c =
    let bs = c.self.inside.buckets in let was = c.args.self.now in
    let n = c.self.inside.length in let m = c.self.inside.overflowing in
    let at = settings-view bs _ was c.self.view_is in
    let array = array-lent g.E.Key.PartialEq.eq g.E.Keyed.key_of g.H.Hashes.hash_of bs _ was c.self.view_is c.self.invariant in
    let now = c.f-result.new.arg3 in
    let called : CalledOnArrays g.F.FnOnce c.args.f (route_of was) bs c.args.old.now c.f-result.result now c.f-result.new.arg4 =
    record { router = _; shows = rw at refl; first = _; is_into = refl; second = _; is_olds = refl; first_left = _; second_left = _; called = c.f-result.ensures; is_filled = refl; is_news = refl } in
    let filled = c.requires.keeps bs now c.f-result.new.arg4 n m c.f-result.result array called in
    let most = table-bound _ _ _ _ now filled.table in
    record { fits = omega (arith, c.bucket_len-moved.ensures, most) }

pub overflow_len-requires : goal.overflow_len-requires
overflow_len-requires g c =
    let bs = c.self.inside.buckets in let was = c.args.self.now in
    let n = c.self.inside.length in let m = c.self.inside.overflowing in
    let at = settings-view bs _ was c.self.view_is in
    let array = array-lent g.E.Key.PartialEq.eq g.E.Keyed.key_of g.H.Hashes.hash_of bs _ was c.self.view_is c.self.invariant in
    let now = c.f-result.new.arg3 in
    let called : CalledOnArrays g.F.FnOnce c.args.f (route_of was) bs c.args.old.now c.f-result.result now c.f-result.new.arg4 =
    record { router = _; shows = rw at refl; first = _; is_into = refl; second = _; is_olds = refl; first_left = _; second_left = _; called = c.f-result.ensures; is_filled = refl; is_news = refl } in
    let filled = c.requires.keeps bs now c.f-result.new.arg4 n m c.f-result.result array called in
    filled.within

pub overflow_add-self-2 : goal.overflow_add-self-2
overflow_add-self-2 g c =
    let bs = c.self.inside.buckets in let was = c.args.self.now in
    let n = c.self.inside.length in let m = c.self.inside.overflowing in
    let at = settings-view bs _ was c.self.view_is in
    let array = array-lent g.E.Key.PartialEq.eq g.E.Keyed.key_of g.H.Hashes.hash_of bs _ was c.self.view_is c.self.invariant in
    let now = c.f-result.new.arg3 in
    let called : CalledOnArrays g.F.FnOnce c.args.f (route_of was) bs c.args.old.now c.f-result.result now c.f-result.new.arg4 =
    record { router = _; shows = rw at refl; first = _; is_into = refl; second = _; is_olds = refl; first_left = _; second_left = _; called = c.f-result.ensures; is_filled = refl; is_news = refl } in
    let filled = c.requires.keeps bs now c.f-result.new.arg4 n m c.f-result.result array called in
    record { fits = omega (arith, c.overflow_len.ensures, filled.table.few) }

pub invariant_of-self : goal.invariant_of-self
invariant_of-self g c =
    let bs = c.self.inside.buckets in let was = c.args.self.now in
    let n = c.self.inside.length in let m = c.self.inside.overflowing in
    let at = settings-view bs _ was c.self.view_is in
    let array = array-lent g.E.Key.PartialEq.eq g.E.Keyed.key_of g.H.Hashes.hash_of bs _ was c.self.view_is c.self.invariant in
    let now = c.f-result.new.arg3 in
    let called : CalledOnArrays g.F.FnOnce c.args.f (route_of was) bs c.args.old.now c.f-result.result now c.f-result.new.arg4 =
    record { router = _; shows = rw at refl; first = _; is_into = refl; second = _; is_olds = refl; first_left = _; second_left = _; called = c.f-result.ensures; is_filled = refl; is_news = refl } in
    let filled = c.requires.keeps bs now c.f-result.new.arg4 n m c.f-result.result array called in
    record {
      table = rw (c.bucket_len-moved.ensures, c.overflow_len.ensures) (rw (at, hash_in) at filled.table);
      small_minimum = c.self.invariant.small_minimum;
      unique = filled.unique;
    }

pub returns : goal.returns
returns g c =
    let bs = c.self.inside.buckets in let was = c.args.self.now in
    let n = c.self.inside.length in let m = c.self.inside.overflowing in
    let at = settings-view bs _ was c.self.view_is in
    let array = array-lent g.E.Key.PartialEq.eq g.E.Keyed.key_of g.H.Hashes.hash_of bs _ was c.self.view_is c.self.invariant in
    let now = c.f-result.new.arg3 in
    let called : CalledOnArrays g.F.FnOnce c.args.f (route_of was) bs c.args.old.now c.f-result.result now c.f-result.new.arg4 =
    record { router = _; shows = rw at refl; first = _; is_into = refl; second = _; is_olds = refl; first_left = _; second_left = _; called = c.f-result.ensures; is_filled = refl; is_news = refl } in
    let filled = c.requires.keeps bs now c.f-result.new.arg4 n m c.f-result.result array called in
    record {
      before = bs;
      count = n;
      over = m;
      array = array;
      after = now;
      called = called;
      lists = lists-view now _ _ refl;
      moved = c.bucket_len-moved.ensures;
      spilled = spilled-view now _ _ refl ∙ sym filled.table.spilled;
      settings = settings-view now _ _ refl ∙ sym at;
      noted = refused-view now _ _ refl ∙ sym (refused-view bs _ was c.self.view_is);
      waiting = waiting-view now _ _ refl ∙ sym (waiting-view bs _ was c.self.view_is);
      owed = owed-view now _ _ refl ∙ sym (owed-view bs _ was c.self.view_is);
    }
