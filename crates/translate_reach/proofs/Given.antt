-- What is known where a symbol is taken, and what a list of constants needs.
use Rattle.std.proofs.Common.{◌≡◌, ℕ, zero, suc, ◌<◌, List, [], ◌∷◌, ◌++◌, length, Some, slice_get, refl, sym, ap, subst, ◌∙◌, append_assoc, arith}
use Rattle.std.specs.Prelude.{slice_index_or}
use Rattle.std.proofs.lemmas.Option.{same_Some}
use Rattle.hol_spec.specs.Names.{Name}
use Rattle.hol_spec.specs.Types.{HolType}
use Rattle.hol_spec.specs.Terms.{Term}
use Rattle.hol_spec.specs.Definitions.{Definition, TypeNames}
use Rattle.hol_spec.specs.Rules as rule
use Rattle.hol_spec.specs.Symbols.{Symbol}
use Rattle.hol_spec.specs.Proofs.{Made, made_symbol, symbols_of, IsPlain, IsProof}
use Rattle.hol_proof_laws.specs.ProofGrowth.{symbols_of-append}
use Rattle.hol_term.specs.declared.Variable.{Variable}
use Rattle.hol_term.specs.Tables.{Trees, type_at}
use Rattle.hol_defs.specs.Symbols.{Taken, symbol_at, symbols_at}
use Rattle.hol_rules.specs.Kept.{Kept}
use Rattle.hol_rules.specs.declared.made.Made.{Made as OneMade}
use Rattle.hol_rules.specs.declared.made.Made.TheVariants as one
use Rattle.hol_defs.specs.Lists.{pairs_at as pairs_view, ArePairsKnown as AreConstantPairsKnown}
use Rattle.translate_spec.specs.Reach.{constant_key, type_keys, given_keys}
use Rattle.hol_laws.specs.PlaceLaws.{slice_get-mapped, slice_get-seam}
use Rattle.translate_reach.specs.MadeItems.{IsNoted}
use Rattle.translate_reach.proofs.Fronts.{symbol-plain}

-- what is noted of a symbol gives the symbol that has its place
pub symbol-there : (p : Kept) (front rest : List Made) (y : Made) (m : OneMade) → p.made ≡ front ++ y ∷ rest → IsNoted y m → (taken : List Taken) (t : Taken)
    → symbols_at p.trees taken ≡ symbols_of p.made
    → slice_get taken (length (symbols_of front)) ≡ Some t → made_symbol y ≡ Some (symbol_at p.trees t)
symbol-there p front rest y m whole noted taken t are at = go y whole noted
  where
    there : (z : Made) (x : Symbol) → p.made ≡ front ++ z ∷ rest → symbols_of (z ∷ rest) ≡ x ∷ symbols_of rest → x ≡ symbol_at p.trees t
    there z x whole first =
        let i = length (symbols_of front) in
        same_Some _ _
        (sym (slice_get-seam (symbols_of front) (symbols_of rest) x)
        ∙ ap (λ l. slice_get l i) (ap (λ l. symbols_of front ++ l) (sym first) ∙ sym (symbols_of-append front (z ∷ rest)) ∙ sym (ap symbols_of whole)
        ∙ sym are)
        ∙ slice_get-mapped (symbol_at p.trees) taken i t at)

    go : (z : Made) → p.made ≡ front ++ z ∷ rest → IsNoted z m → made_symbol z ≡ Some (symbol_at p.trees t)
    go (Made.symbol x) whole noted = ap Some (there (Made.symbol x) x whole refl)
    go (Made.type_definition names c f i) whole noted =
        ap Some (there (Made.type_definition names c f i) (Symbol.defined (Definition.type_operator names c f)) whole refl)
    go (Made.step x) whole noted = absurd noted

-- a plain symbol is made alone
pub plain-made : (y : Made) (x : Symbol) → made_symbol y ≡ Some x → IsPlain x → y ≡ Made.symbol x
plain-made (Made.symbol z) x e plain = ap Made.symbol (same_Some _ _ e)
plain-made (Made.type_definition names c f i) x e plain = absurd (subst IsPlain (sym (same_Some _ _ e)) plain)
plain-made (Made.step z) x e plain = absurd (cc)

-- a type operator is made by a type definition, which is noted with its step
pub operator-made : (front rest : List Made) (y : Made) (m : OneMade) (names : TypeNames) (c : HolType) (f : Term) → IsProof (front ++ y ∷ rest) → IsNoted y m
    → made_symbol y ≡ Some (Symbol.defined (Definition.type_operator names c f))
    → (i : ℕ) × (y ≡ Made.type_definition names c f i) × IsNoted (Made.type_definition names c f i) m
operator-made front rest (Made.symbol z) m names c f proof noted e = absurd (subst IsPlain (same_Some _ _ e) (symbol-plain front rest z proof))
operator-made front rest (Made.type_definition names2 c2 f2 i) m names c f proof noted e =
    let same : Made.type_definition names2 c2 f2 i ≡ Made.type_definition names c f i = let d = same_Some _ _ e in cc in
    (i, same, subst (λ z. IsNoted z m) same noted)
operator-made front rest (Made.step z) m names c f proof noted e = absurd noted

pub definition-noted : (names : TypeNames) (c : HolType) (f : Term) (i : ℕ) (m : OneMade) → IsNoted (Made.type_definition names c f i) m → (n : Name)
    × (m ≡ one.TypeOp n i)
definition-noted names c f i (one.TypeOp n j) h = (n, ap (one.TypeOp n) (sym h))
definition-noted names c f i (one.InputConst n) h = absurd h
definition-noted names c f i (one.InputOp n k) h = absurd h
definition-noted names c f i (one.Const n) h = absurd h
definition-noted names c f i (one.Step k) h = absurd h

-- one more constant of a list
pub given-last : (trees : Trees) (ps : List (Name × Variable)) (q : Name × Variable)
    → given_keys (rule.Parameters.constants (pairs_view trees (ps ++ q ∷ []))) ≡ given_keys (rule.Parameters.constants (pairs_view trees ps))
    ++ (constant_key q.0 ∷ type_keys (type_at trees q.1.ty.0) ++ [])
given-last trees [] q = refl
given-last trees (p ∷ ps) q =
    ap (λ l. constant_key p.0 ∷ type_keys (type_at trees p.1.ty.0) ++ l) (given-last trees ps q)
    ∙ sym (append_assoc (constant_key p.0 ∷ type_keys (type_at trees p.1.ty.0)) (given_keys (rule.Parameters.constants (pairs_view trees ps)))
    (constant_key q.0 ∷ type_keys (type_at trees q.1.ty.0) ++ []))

-- the type of a pair's variable is of the table
pub pair-known : (trees : Trees) (ps : List (Name × Variable)) (i : ℕ) (q : Name × Variable) → AreConstantPairsKnown trees ps → i < length ps → q
    ≡ slice_index_or ps i q → q.1.ty.0 < length trees.types
pair-known trees [] i q h l e = absurd (omega arith)
pair-known trees (p ∷ ps) zero q h l e = subst (λ (r : Name × Variable). r.1.ty.0 < length trees.types) (sym e) h.0
pair-known trees (p ∷ ps) (suc i) q h l e = pair-known trees ps i q h.1 (omega arith) e
