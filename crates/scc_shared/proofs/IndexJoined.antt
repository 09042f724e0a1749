-- A walk that keeps some pairs, over one list after another: each list is walked with the closure that the list before left.
use Rattle.std.proofs.Common.{List, [], ◌∷◌, ◌++◌, Bool, refl}
use Rattle.std.specs.Borrow.{Bor}
use Rattle.std.specs.Fn.{Mut}
use denote.Param.Always.{always_mut, mut_next}
use Rattle.scc_common.specs.Walks.{CalledOn}
use Rattle.scc_common.proofs.WalkLemmas.{turn-always}
use Rattle.scc_owned.specs.IndexWalks.{CallableOnAll, Retains}
use Rattle.scc_owned.specs.IndexWalks as retained

module _ {F K V : Type 0} where
  pub retains-join : {T : F → K × V → Bool → F → Type 0} {f m last : F} {es fs stay more : List (K × V)} → Retains T f es stay m → Retains T m fs more last → Retains T f (es ++ fs) (stay ++ more) last
  retains-join retained.ended y = y
  retains-join (retained.kept t x) y = retained.kept t (retains-join x y)
  retains-join (retained.removed t x) y = retained.removed t (retains-join x y)

  -- if a closure may always be called, it may always be called after the walk
  pub retains-always : (g : Mut F (Bor K × (Bor V × Unit {0})) Bool) {f last : F} {es stay : List (K × V)} → Retains (CalledOn g) f es stay last → always_mut g f → always_mut g last
  retains-always g retained.ended h = h
  retains-always g (retained.kept t x) h = retains-always g x (mut_next g _ _ _ _ _ t.called refl h)
  retains-always g (retained.removed t x) h = retains-always g x (mut_next g _ _ _ _ _ t.called refl h)

  -- if a closure may always be called, it may be called on all pairs
  pub callable-always : (g : Mut F (Bor K × (Bor V × Unit {0})) Bool) (f : F) (es : List (K × V)) → always_mut g f → CallableOnAll g f es
  callable-always g = turn-always _ _ (always_mut g) (λ f f' p t h. mut_next g _ _ _ _ _ t.1.called refl h) (λ f p h key value shows. (h.at ((key, (value, tt)) ∷ [])).0)
