-- Numbers of contexts: each has one context, and keeps it.
use Rattle.std.proofs.Common.{◌≡◌, ℕ, sym, ap, ◌∙◌, refl, subst, List, [], ◌∷◌, Some, arith}
use Rattle.std.specs.Prelude.{slice_get}
use Rattle.std.proofs.Math.Path.{ap₂}
use Rattle.std.proofs.lemmas.Option.{same_Some}
use Rattle.lp_term.specs.declared.LpId.{LpId}
use Rattle.lp_kernel.specs.declared.contexts.Scope.{Scope}
use Rattle.lp_kernel.specs.declared.state.State.{State}
use Rattle.lp_kernel.specs.Keys.{IsInner, IsKey, AreMore, IsKeyed, IsSamePlace}

-- two scopes of one number are one
same-scope : (scopes : List Scope) (key o p : ℕ) (a b : LpId) → IsInner scopes key o a → IsInner scopes key p b → (o ≡ p) × (a ≡ b)
same-scope scopes key o p a b x y =
    let place : x.place ≡ y.place = omega (arith, x.is, y.is) in
    let e = same_Some _ _ (sym x.at ∙ ap (slice_get scopes) place ∙ y.at) in
    (ap (λ (s : Scope). s.outer) e, ap (λ (s : Scope). s.entry) e)

-- a number has one context
pub key-one : (scopes : List Scope) (key : ℕ) (c d : List LpId) → IsKey scopes key c → IsKey scopes key d → c ≡ d
key-one scopes key [] [] x y = refl
key-one scopes key [] (b ∷ d) x y = absurd (omega (arith, x, y.1.is))
key-one scopes key (a ∷ c) [] x y = absurd (omega (arith, y, x.1.is))
key-one scopes key (a ∷ c) (b ∷ d) x y =
    let e = same-scope scopes key x.0 y.0 a b x.1 y.1 in
    ap₂ (λ h t. h ∷ t) e.1 (key-one scopes y.0 c d (subst (λ o. IsKey scopes o c) e.0 x.2) y.2)

inner-more : (old new : List Scope) (key outer : ℕ) (entry : LpId) → AreMore old new → IsInner old key outer entry → IsInner new key outer entry
inner-more old new key outer entry m x = record { place = x.place; is = x.is; at = m.each x.place _ x.at }

-- a context keeps its number
pub key-more : (old new : List Scope) → AreMore old new → (key : ℕ) (c : List LpId) → IsKey old key c → IsKey new key c
key-more old new m key [] x = x
key-more old new m key (a ∷ c) x = (x.0, inner-more old new key x.0 a m x.1, key-more old new m x.0 c x.2)

pub more-refl : (scopes : List Scope) → AreMore scopes scopes
more-refl scopes = record { each = λ p s h. h }

-- the same context has the same number
pub keyed-same : (scopes : List Scope) (s t : State) → IsSamePlace s t → IsKeyed scopes s → IsKeyed scopes t
keyed-same scopes s t same h = subst (IsKey scopes t.key) (sym same.context) (subst (λ k. IsKey scopes k s.context) (sym same.key) h)

-- a context with a new innermost variable
pub keyed-pushed : (old new : List Scope) (c d : List LpId) (outer key : ℕ) (entry : LpId) → AreMore old new → IsInner new key outer entry → d ≡ entry ∷ c
    → IsKey old outer c → IsKey new key d
keyed-pushed old new c d outer key entry more inner e h = subst (IsKey new key) (sym e) (outer, inner, key-more old new more outer c h)
