-- Inversion: what the typing of a tree of each form rests on (Barendregt, Lambda calculi with types, 1992, the generation lemma).
use Rattle.std.proofs.Common.{◌≡◌, ◌⊎◌, inl, inr, refl, sym, subst, ℕ, List, ◌∷◌, Some}
use Rattle.lp_spec.specs.Trees.{Tree, SortType, Sym, App, Lam, Pi, put}
use Rattle.lp_spec.specs.Modules.{Declaration, symbol_type}
use Rattle.lp_spec.specs.Conversion.{Conv}
use Rattle.lp_typing_laws.specs.ConversionLaws.{Conv-trans, Conv-equal}
use Rattle.lp_spec.specs.Typing.{IsSort, Typed, of_product, of_abstraction, of_application, of_symbol, of_conversion, IsSorted}

-- the type is convertible to the other, which has a sort
pub record Turns (m : List Declaration) (G : List Tree) (A B : Tree) : Type 0 where
  pub conv : Conv m A B
  pub sorted : IsSorted m G B

-- what has the first type has the second: they are one, or the first turns into the second
abbrev pub Fits : List Declaration → List Tree → Tree → Tree → Type 0
Fits m G A B = (A ≡ B) ⊎ Turns m G A B

-- types that fit are convertible
pub Fits-Conv : {m : List Declaration} {G : List Tree} {A B : Tree} → Fits m G A B → Conv m A B
Fits-Conv (inl e) = Conv-equal e
Fits-Conv (inr k) = k.conv

-- what has a type has each that fits
pub Typed-Fits : {m : List Declaration} {G : List Tree} {t A B : Tree} → Typed m G t A → Fits m G A B → Typed m G t B
Typed-Fits {m = m} {G = G} {t = t} h (inl e) = subst (Typed m G t) e h
Typed-Fits h (inr k) = of_conversion h k.conv k.sorted.by k.sorted.is

-- a type that fits before a conversion fits after it
pub Fits-on : {m : List Declaration} {G : List Tree} {A B C s : Tree} → Fits m G A B → Conv m B C → Typed m G C s → IsSort s → Fits m G A C
Fits-on {m = m} {C = C} (inl e) c h s = inr (record { conv = subst (λ w. Conv m w C) (sym e) c; sorted = record { sort = _; is = s; by = h } })
Fits-on (inr k) c h s = inr (record { conv = Conv-trans k.conv c; sorted = record { sort = _; is = s; by = h } })

-- a type that fits after a conversion fits before it
pub Fits-before : {m : List Declaration} {G : List Tree} {A B C : Tree} → Conv m A B → IsSorted m G B → Fits m G B C → Fits m G A C
Fits-before {m = m} {G = G} {A = A} k s (inl e) = inr (record { conv = subst (Conv m A) e k; sorted = subst (IsSorted m G) e s })
Fits-before k s (inr h) = inr (record { conv = Conv-trans k h.conv; sorted = h.sorted })

-- what the typing of a product rests on
pub record OfProduct (m : List Declaration) (G : List Tree) (A B T : Tree) : Type 0 where
  pub sort : Tree
  pub is : IsSort sort
  pub domain : Typed m G A SortType
  pub body : Typed m (A ∷ G) B sort
  pub fits : Fits m G sort T

-- a product is typed by its rule, up to conversion
pub Typed-Pi : {m : List Declaration} {G : List Tree} {A B T : Tree} → Typed m G (Pi A B) T → OfProduct m G A B T
Typed-Pi (of_product a b s) = record { sort = _; is = s; domain = a; body = b; fits = inl refl }
Typed-Pi (of_conversion t c b s) = let h = Typed-Pi t in record { sort = h.sort; is = h.is; domain = h.domain; body = h.body; fits = Fits-on h.fits c b s }

-- what the typing of an abstraction rests on
pub record OfAbstraction (m : List Declaration) (G : List Tree) (A b T : Tree) : Type 0 where
  pub codomain : Tree
  pub product : IsSorted m G (Pi A codomain)
  pub body : Typed m (A ∷ G) b codomain
  pub fits : Fits m G (Pi A codomain) T

-- an abstraction is typed by its rule, up to conversion
pub Typed-Lam : {m : List Declaration} {G : List Tree} {A b T : Tree} → Typed m G (Lam A b) T → OfAbstraction m G A b T
Typed-Lam (of_abstraction p s b) = record { codomain = _; product = record { sort = _; is = s; by = p }; body = b; fits = inl refl }
Typed-Lam (of_conversion t c b s) = let h = Typed-Lam t in record { codomain = h.codomain; product = h.product; body = h.body; fits = Fits-on h.fits c b s }

-- what the typing of an application rests on
pub record OfApplication (m : List Declaration) (G : List Tree) (f x T : Tree) : Type 0 where
  pub domain : Tree
  pub codomain : Tree
  pub function : Typed m G f (Pi domain codomain)
  pub argument : Typed m G x domain
  pub fits : Fits m G (put x codomain) T

-- an application is typed by its rule, up to conversion
pub Typed-App : {m : List Declaration} {G : List Tree} {f x T : Tree} → Typed m G (App f x) T → OfApplication m G f x T
Typed-App (of_application f a e) = record { domain = _; codomain = _; function = f; argument = a; fits = inl e }
Typed-App (of_conversion t c b s) = let h = Typed-App t in record
    { domain = h.domain; codomain = h.codomain; function = h.function; argument = h.argument; fits = Fits-on h.fits c b s }

-- what the typing of a symbol rests on
pub record OfSymbol (m : List Declaration) (G : List Tree) (s : ℕ) (T : Tree) : Type 0 where
  pub ty : Tree
  pub declared : symbol_type m s ≡ Some ty
  pub fits : Fits m G ty T

-- a symbol is typed by its rule, up to conversion
pub Typed-Sym : {m : List Declaration} {G : List Tree} {s : ℕ} {T : Tree} → Typed m G (Sym s) T → OfSymbol m G s T
Typed-Sym (of_symbol e) = record { ty = _; declared = e; fits = inl refl }
Typed-Sym (of_conversion t c b s) = let h = Typed-Sym t in record { ty = h.ty; declared = h.declared; fits = Fits-on h.fits c b s }
