-- A walk over one list after another, each with the closure that the walk before left.
use Rattle.std.proofs.Common.{List, ◌++◌, Bool, true, Result, Ok, refl}
use Rattle.std.specs.Borrow.{Bor, MutBor}
use Rattle.std.specs.Fn.{Mut}
use denote.Param.Always.{always_mut, mut_next}
use Rattle.scc_common.specs.Walks.{CalledOn, Walks}
use Rattle.scc_common.specs.Walks as walks
use Rattle.scc_common.specs.declared.errors.WalkError.{WalkError}
use Rattle.scc_common.specs.declared.verdict.Verdict.{Verdict}
use Rattle.scc_common.specs.PairWalks.{CalledToWrite, Retains, Takes, Declines}
use Rattle.scc_common.specs.PairWalks as pairs

module _ {F K V : Type 0} where
  pub retains-join : {T : F → K × V → Bool → V → F → Type 0} {f m last : F} {es fs stay more : List (K × V)} → Retains T f es stay m → Retains T m fs more last → Retains T f (es ++ fs) (stay ++ more) last
  retains-join pairs.ended y = y
  retains-join (pairs.kept t x) y = pairs.kept t (retains-join x y)
  retains-join (pairs.removed t x) y = pairs.removed t (retains-join x y)

  pub takes-join : {T : F → K × V → Verdict → V → F → Type 0} {f m last : F} {es fs stay more out next : List (K × V)} {r : Result Bool WalkError} → Takes T f es stay out (Ok true) m → Takes T m fs more next r last → Takes T f (es ++ fs) (stay ++ more) (out ++ next) r last
  takes-join pairs.ended y = y
  takes-join (pairs.kept t x) y = pairs.kept t (takes-join x y)
  takes-join (pairs.took t x) y = pairs.took t (takes-join x y)

  -- if a closure may always be called, it may always be called after the walk
  pub walks-always : (g : Mut F (Bor K × (Bor V × Unit {0})) Bool) {f last : F} {es : List (K × V)} {b : Bool} → Walks (CalledOn g) f es b last → always_mut g f → always_mut g last
  walks-always g walks.ended h = h
  walks-always g (walks.stopped t) h = mut_next g _ _ _ _ _ t.called refl h
  walks-always g (walks.went_on t x) h = walks-always g x (mut_next g _ _ _ _ _ t.called refl h)

  pub retains-always : (g : Mut F (Bor K × (MutBor V × Unit {0})) (Bool × (MutBor V × Unit {0}))) {f last : F} {es stay : List (K × V)} → Retains (CalledToWrite g) f es stay last → always_mut g f → always_mut g last
  retains-always g pairs.ended h = h
  retains-always g (pairs.kept t x) h = retains-always g x (mut_next g _ _ _ _ _ t.called refl h)
  retains-always g (pairs.removed t x) h = retains-always g x (mut_next g _ _ _ _ _ t.called refl h)

  pub takes-always : (g : Mut F (Bor K × (MutBor V × Unit {0})) (Verdict × (MutBor V × Unit {0}))) {f last : F} {es stay out : List (K × V)} {r : Result Bool WalkError} → Takes (CalledToWrite g) f es stay out r last → always_mut g f → always_mut g last
  takes-always g pairs.ended h = h
  takes-always g pairs.refused h = h
  takes-always g (pairs.kept t x) h = takes-always g x (mut_next g _ _ _ _ _ t.called refl h)
  takes-always g (pairs.took t x) h = takes-always g x (mut_next g _ _ _ _ _ t.called refl h)
  takes-always g (pairs.kept_last t) h = mut_next g _ _ _ _ _ t.called refl h
  takes-always g (pairs.took_last t) h = mut_next g _ _ _ _ _ t.called refl h

  pub declines-always : (g : Mut F (Bor K × (Bor V × Unit {0})) Bool) {f last : F} {es : List (K × V)} → Declines (CalledOn g) f es last → always_mut g f → always_mut g last
  declines-always g pairs.ended h = h
  declines-always g (pairs.went_on t x) h = declines-always g x (mut_next g _ _ _ _ _ t.called refl h)

  pub declines-join : {T : F → K × V → Bool → F → Type 0} {f m last : F} {es fs : List (K × V)} → Declines T f es m → Declines T m fs last → Declines T f (es ++ fs) last
  declines-join pairs.ended y = y
  declines-join (pairs.went_on t x) y = pairs.went_on t (declines-join x y)
