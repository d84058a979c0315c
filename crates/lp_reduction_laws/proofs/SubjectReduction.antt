-- A step keeps the type: by cases on the step, with the inversion of typing and the injectivity of products.
use Rattle.std.proofs.Common.{◌≡◌, refl, sym, ◌∙◌, subst, ℕ, List, Some}
use Rattle.std.proofs.lemmas.Option.{same_Some}
use Rattle.lp_spec.specs.Trees.{Tree, SortType, Sym, App, Pi, put}
use Rattle.lp_spec.specs.Modules.{Declaration, types, symbol_type}
use Rattle.lp_spec.specs.Conversion.{Step, beta, delta, rule, app_function, app_argument, lam_domain, lam_body, pi_domain, pi_body, Conv, same, forth, back}
use Rattle.lp_typing_laws.specs.ConversionLaws.{IsClosed, Conv-sym, Conv-put, Steps-Conv}
use Rattle.lp_spec.specs.Typing.{is_type, Typed, of_product, of_abstraction, of_application, of_conversion, IsContext, entry}
use Rattle.lp_typing_laws.specs.TypingLaws.{weaken, Typed-anywhere, Typed-put, Typed-entry}
use Rattle.lp_typing_laws.specs.Inversion.{Fits, Fits-Conv, Fits-before, Typed-Fits, Typed-Pi, Typed-Lam, Typed-App, Typed-Sym}
use Rattle.lp_typing_laws.specs.Regularity.{IsSorted-codomain}
use Rattle.lp_typing_laws.specs.SignatureForms.{Typed-types, Typed-term_of}
use Rattle.lp_typing_laws.specs.Soundness.{IsSound, IsSound-closed, symbol_type-closed, symbol_definition-typed}
use Rattle.lp_typing_laws.specs.WellTypedLaws.{WellTyped-IsSound}
use Rattle.lp_spec.specs.CalculusLaws.{TypingKept}
use Rattle.lp_reduction_laws.proofs.ParallelSteps.{Parallel-refl, Step-Parallel, Parallel-put, Parallel-Steps}
use Rattle.lp_reduction_laws.proofs.InjectiveProducts.{Conv-Pi}

module _ (m : List Declaration) (sound : IsSound m) where
  -- a sound module is closed
  closed : IsClosed m
  closed = IsSound-closed m sound

  -- a step of an argument is a conversion of what it is put in
  Conv-put_step : {x y : Tree} (B : Tree) → Step m x y → Conv m (put x B) (put y B)
  Conv-put_step B h = Steps-Conv (Parallel-Steps (Parallel-put m closed (Step-Parallel m h) (Parallel-refl m B)))

  -- an argument of a symbol that takes a simple type is one, and the type of the whole fits
  simple_argument : {G : List Tree} {s : ℕ} {x T : Tree} (B : Tree) → IsContext m G → symbol_type m s ≡ Some (Pi types B) → Typed m G (App (Sym s) x) T
      → Typed m G x types × Fits m G (put x B) T
  simple_argument {x = x} B c e h =
      let a = Typed-App h in
      let o = Typed-Sym a.function in
      let p = Conv-Pi m closed (subst (λ w. Conv m w (Pi a.domain a.codomain)) (same_Some _ _ (sym o.declared ∙ e)) (Fits-Conv o.fits)) in (
        of_conversion a.argument (Conv-sym p.0) (Typed-types m) is_type,
        Fits-before (Conv-put m closed x p.1) (IsSorted-codomain m sound c a.function a.argument) a.fits,
      )

  -- over a sound module a step keeps the type
  pub Typed-Step : {t u : Tree} → Step m t u → {G : List Tree} {T : Tree} → IsContext m G → Typed m G t T → Typed m G u T
  Typed-Step (beta {b = b} {x = x} e) {G = G} {T = T} c h =
      let a = Typed-App h in
      let l = Typed-Lam a.function in
      let q = Typed-Pi l.product.by in
      let p = Conv-Pi m closed (Fits-Conv l.fits) in
      let hx = of_conversion a.argument (Conv-sym p.0) q.domain is_type in
      let s = IsSorted-codomain m sound c a.function a.argument in
      subst (λ w. Typed m G w T) e (Typed-Fits (of_conversion (Typed-put m closed hx l.body) (Conv-put m closed x p.1) s.by s.is) a.fits)
  Typed-Step (delta {s = s} {u = u} k) {G = G} c h =
      let o = Typed-Sym h in
      let body = symbol_definition-typed m sound s u o.ty k o.declared in
      Typed-Fits (Typed-anywhere m closed G (symbol_type-closed m sound s o.ty o.declared) body) o.fits
  Typed-Step (rule {a = a} {b = b} e) {G = G} {T = T} c h =
      let r = simple_argument SortType c refl h in
      let f = Typed-App r.0 in
      let l = simple_argument (Pi types types) c refl f.function in
      let p = Conv-Pi m closed (Fits-Conv l.1) in
      let hb = of_conversion f.argument (Conv-sym p.0) (Typed-types m) is_type in
      subst (λ w. Typed m G w T) e (Typed-Fits (of_product (Typed-term_of m l.0) (weaken m closed (Typed-term_of m hb)) is_type) r.1)
  Typed-Step (app_function k) c h = let a = Typed-App h in Typed-Fits (of_application (Typed-Step k c a.function) a.argument refl) a.fits
  Typed-Step (app_argument k) {G = G} c h =
      let a = Typed-App h in
      let s = IsSorted-codomain m sound c a.function a.argument in
      Typed-Fits (of_conversion (of_application a.function (Typed-Step k c a.argument) refl) (Conv-sym (Conv-put_step a.codomain k)) s.by s.is) a.fits
  Typed-Step (lam_domain k) c h =
      let l = Typed-Lam h in
      let p = Typed-Pi l.product.by in
      let domain = Typed-Step k c p.domain in
      let body = Typed-entry m closed (forth k same) p.domain l.body in
      let codomain = Typed-entry m closed (forth k same) p.domain p.body in
      Typed-Fits (of_conversion (of_abstraction (of_product domain codomain p.is) p.is body) (back (pi_domain k) same) l.product.by l.product.is) l.fits
  Typed-Step (lam_body k) c h =
      let l = Typed-Lam h in
      let p = Typed-Pi l.product.by in
      Typed-Fits (of_abstraction l.product.by l.product.is (Typed-Step k (entry c p.domain) l.body)) l.fits
  Typed-Step (pi_domain k) c h =
      let p = Typed-Pi h in
      Typed-Fits (of_product (Typed-Step k c p.domain) (Typed-entry m closed (forth k same) p.domain p.body) p.is) p.fits
  Typed-Step (pi_body k) c h =
      let p = Typed-Pi h in
      Typed-Fits (of_product p.domain (Typed-Step k (entry c p.domain) p.body) p.is) p.fits

-- the law of subject reduction holds
pub kept : TypingKept
kept m typed G c t u A h k = Typed-Step m (WellTyped-IsSound m typed) k c h
