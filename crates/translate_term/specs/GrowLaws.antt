-- What stays as it is while the table of a module grows.
use Rattle.std.proofs.Common.{◌≡◌, refl, sym, ap, ◌∙◌, subst, arith, List, [], ◌∷◌}
use Rattle.hol_spec.specs.Names.{Name}
use Rattle.hol_spec.specs.Types.{HolType}
use Rattle.hol_term.specs.declared.Variable.{Variable}
use Rattle.hol_term.specs.Tables.{Trees}
use Rattle.hol_type.specs.declared.table.TypeId.{TypeId}
use Rattle.hol_type.specs.Tables as type
use Rattle.lp_spec.specs.Trees.{Tree}
use Rattle.lp_term.specs.declared.LpId.{LpId}
use Rattle.lp_term.specs.Tables.{Keeps}
use Rattle.lp_term.specs.TableLaws.{Keeps-refl, Keeps-trans, tree_at-Stays}
use Rattle.holide_sig.specs.declared.decls.Decl.{Decl}
use Rattle.holide_sig.specs.declared.module.Module.{Module}
use Rattle.holide_sig.specs.Modules.{declarations_of, IsHeld}
use Rattle.holide_sig.specs.ModuleLaws.{IsHeld-Keeps, declarations_of-Keeps}
use Rattle.translate_term.specs.declared.memo.Place.{Place}
use Rattle.translate_term.specs.Told.{types_in, terms_in, AreTypesKnown, AreTermsKnown}
use Rattle.translate_term.specs.Walks.{Grows, Given, IsGiven, AreGiven, IsTypeMemo, IsTermMemo}
use Rattle.std.proofs.Math.Path.{ap₂}

pub Grows-refl : (m : Module) → Grows m m
Grows-refl m = record { table = Keeps-refl m.table; decls = refl }

pub Grows-trans : {a b c : Module} → Grows a b → Grows b c → Grows a c
Grows-trans h k = record { table = Keeps-trans h.table k.table; decls = k.decls ∙ h.decls }

pub Grows-table : (m : Module) (trees : List Tree) → Keeps m.table trees → Grows m (record { table = trees; decls = m.decls })
Grows-table m trees k = record { table = k; decls = refl }

with_decls : List Tree → List Decl → Module
with_decls trees decls = record { table = trees; decls = decls }

pub IsHeld-Grows : (m n : Module) → Grows m n → IsHeld m → IsHeld n
unfolding with_decls
IsHeld-Grows m n g h = subst (λ ds. IsHeld (with_decls n.table ds)) (sym g.decls) (IsHeld-Keeps m n.table g.table h)

pub declarations_of-Grows : (m n : Module) → Grows m n → IsHeld m → declarations_of n ≡ declarations_of m
unfolding with_decls
declarations_of-Grows m n g h = ap (λ ds. declarations_of (with_decls n.table ds)) g.decls ∙ declarations_of-Keeps m n.table g.table h

pub AreTypesKnown-Keeps : {old new : List Tree} → Keeps old new → (es : List (Name × LpId)) → AreTypesKnown old es → AreTypesKnown new es
AreTypesKnown-Keeps k [] h = tt
AreTypesKnown-Keeps k (e ∷ es) h = (omega (arith, k.longer, h.0), AreTypesKnown-Keeps k es h.1)

pub types_in-Keeps : {old new : List Tree} → Keeps old new → (es : List (Name × LpId)) → AreTypesKnown old es → types_in new es ≡ types_in old es
types_in-Keeps k [] h = refl
types_in-Keeps k (e ∷ es) h = ap₂ (λ t l. (e.0, t) ∷ l) (sym (tree_at-Stays k.stays e.1.0 h.0)) (types_in-Keeps k es h.1)

pub AreTermsKnown-Keeps : {old new : List Tree} → Keeps old new → (types : List HolType) (es : List (Variable × LpId)) → AreTermsKnown types old es
    → AreTermsKnown types new es
AreTermsKnown-Keeps k types [] h = tt
AreTermsKnown-Keeps k types (e ∷ es) h = (h.0, omega (arith, k.longer, h.1), AreTermsKnown-Keeps k types es h.2)

pub terms_in-Keeps : {old new : List Tree} → Keeps old new → (types : List HolType) (es : List (Variable × LpId)) → AreTermsKnown types old es
    → terms_in types new es ≡ terms_in types old es
terms_in-Keeps k types [] h = refl
terms_in-Keeps k types (e ∷ es) h =
    ap₂ (λ t l. ((e.0.name, type.tree_at types e.0.ty.0), t) ∷ l)
    (sym (tree_at-Stays k.stays e.1.0 h.1)) (terms_in-Keeps k types es h.2)

pub IsGiven-Grows : {m n : Module} → Grows m n → (given : Given) (names : List (Name × LpId)) → IsGiven given m names → IsGiven given n names
IsGiven-Grows {m = m} {n = n} g given names h = record {
  held = IsHeld-Grows m n g h.held;
  declared = declarations_of-Grows m n g h.held ∙ h.declared;
  known = AreTypesKnown-Keeps g.table names h.known;
  told = types_in-Keeps g.table names h.known ∙ h.told;
}

pub AreGiven-Grows : {m n : Module} → Grows m n → (given : Given) (types : List HolType) (variables : List (Variable × LpId)) → AreGiven given m types variables
    → AreGiven given n types variables
AreGiven-Grows g given types variables h = record {
  known = AreTermsKnown-Keeps g.table types variables h.known;
  told = terms_in-Keeps g.table types variables h.known ∙ h.told;
}

pub IsTypeMemo-Keeps : {old new : List Tree} → Keeps old new → (given : Given) (types : List HolType) (made : List (TypeId × LpId))
    → IsTypeMemo given types old made → IsTypeMemo given types new made
IsTypeMemo-Keeps k given types made h id r n = k.stays.each r.0 _ (h id r n)

pub IsTermMemo-Keeps : {old new : List Tree} → Keeps old new → (given : Given) (trees : Trees) (made : List (Place × LpId)) → IsTermMemo given trees old made
    → IsTermMemo given trees new made
IsTermMemo-Keeps k given trees made h place r n = k.stays.each r.0 _ (h place r n)
