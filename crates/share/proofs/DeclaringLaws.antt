-- Declarations over trees that were made anew.
use Rattle.std.proofs.Common.{◌≡◌, ℕ, suc, ◌+◌, ◌≤◌, ◌++◌, refl, ap, subst, sym, ◌∙◌, append_assoc, append-nil, List, [], ◌∷◌, length, map, drop, Some, arith}
use Rattle.std.specs.Prelude.{slice_get, option_map, codes}
use Rattle.std.specs.Option.{unwrap_or}
use Rattle.std.proofs.Math.Path.{ap₂}
use Rattle.std.proofs.lemmas.Option.{slice_get-map}
use Rattle.lp_spec.specs.declared.form.Form.TheVariants.{Def}
use Rattle.lp_spec.specs.Trees.{Tree, SortType}
use Rattle.lp_spec.specs.Modules.{signature, symbol, Declaration}
use Rattle.lp_spec.specs.ModuleOrder.{AreDeclared, MayFollow}
use Rattle.lp_spec.specs.Numerals.{numeral}
use Rattle.lp_term.specs.declared.LpId.{LpId}
use Rattle.holide_sig.specs.declared.decls.Decl.{Decl}
use Rattle.holide_sig.specs.Modules.{declaration_in}
use Rattle.share_spec.specs.MovedTrees.{moved_declaration}
use Rattle.share_spec.specs.Folded.{declarations, Entry, kept, abbreviated}
use Rattle.share.specs.declared.listing.Listed.{Listed}
use Rattle.share.specs.Declaring.{abbreviation_of, declaration_of, number_after, IsMadeBody, IsMadeOf}
use Rattle.share.specs.Listings.{declaration_at, entries_in, entry_in}
use Rattle.share.specs.Moving.{AreMade}
use Rattle.share.proofs.CountLaws.{drop-next, drop-past}

pub made-kept : (place : ℕ → ℕ) (source target : List Tree) (made : List LpId) (x d : Decl) → AreMade place source target made → slice_get made x.ty.0
    ≡ Some d.ty → IsMadeBody place source target x.body d.body → d.name ≡ x.name → d.form ≡ x.form
    → IsMadeOf target (moved_declaration place (declaration_in source x)) d
made-kept place source target made x d a t b n f =
    let p = a x.ty.0 d.ty t in
    (record { ty = p.0; body = b.0 }, cc (p.1, b.1, n, f))

pub made-abbreviated : (place : ℕ → ℕ) (source target : List Tree) (made : List LpId) (body ty b t : LpId) (number : ℕ) (d : Decl)
    → AreMade place source target made → slice_get made ty.0 ≡ Some t → slice_get made body.0 ≡ Some b
    → d ≡ record { name = codes "X" ++ numeral number; form = Def; ty = t; body = Some b } → IsMadeOf target (abbreviation_of place source body ty number) d
made-abbreviated place source target made body ty b t number d a e f g =
    let p = a ty.0 t e in
    let q = a body.0 b f in
    subst (IsMadeOf target (abbreviation_of place source body ty number)) (sym g) (record { ty = p.0; body = q.0 }, cc (p.1, ap Some q.1))

-- ENTRIES one after another
declarations-split : (place : ℕ → ℕ) (k : ℕ) (e : Entry) (es : List Entry) → declarations place k (e ∷ es)
    ≡ declaration_of place k e ∷ declarations place (number_after k e) es
declarations-split place k (kept d) es = refl
declarations-split place k (abbreviated t a) es = refl

module _ (m : List Declaration) (ts : List Tree) (place : ℕ → ℕ) (k i : ℕ) (es : List Listed) (e : Listed) (at : slice_get es i ≡ Some e) where
  abbrev left : List Declaration
  left = declarations place k (entries_in m ts (drop i es))

  abbrev one : Declaration
  one = declaration_of place k (entry_in m ts e)

  abbrev rest : List Declaration
  rest = declarations place (number_after k (entry_in m ts e)) (entries_in m ts (drop (i + 1) es))

  left-split : left ≡ one ∷ rest
  left-split =
      let n : suc i ≡ i + 1 = omega arith in
      ap (λ x. declarations place k (entries_in m ts x)) (drop-next es i e at)
      ∙ ap (λ j. declarations place k (entry_in m ts e ∷ entries_in m ts (drop j es))) n
      ∙ declarations-split place k (entry_in m ts e) (entries_in m ts (drop (i + 1) es))

  pub follows-next : (T : List Declaration) → AreDeclared (signature ++ T) left → MayFollow (signature ++ T) one
  follows-next T a = (subst (AreDeclared (signature ++ T)) left-split a).0

  pub declared-next : (T T' : List Declaration) (k' : ℕ) → T' ≡ T ++ one ∷ [] → k' ≡ number_after k (entry_in m ts e) → AreDeclared (signature ++ T) left
      → AreDeclared (signature ++ T') (declarations place k' (entries_in m ts (drop (i + 1) es)))
  declared-next T T' k' f g a =
      subst (λ j. AreDeclared (signature ++ T') (declarations place j (entries_in m ts (drop (i + 1) es)))) (sym g)
      (subst (λ w. AreDeclared (signature ++ w) rest) (sym f)
      (subst (λ w. AreDeclared w rest) (append_assoc signature T (one ∷ [])) (subst (AreDeclared (signature ++ T)) left-split a).1))

  pub declares-next : (T T' all : List Declaration) (k' : ℕ) → T' ≡ T ++ one ∷ [] → k' ≡ number_after k (entry_in m ts e) → T ++ left ≡ all → T'
      ++ declarations place k' (entries_in m ts (drop (i + 1) es)) ≡ all
  declares-next T T' all k' f g h =
      ap₂ (λ w j. w ++ declarations place j (entries_in m ts (drop (i + 1) es))) f g ∙ append_assoc T (one ∷ []) rest ∙ ap (λ x. T ++ x) (sym left-split) ∙ h

-- after the last of them
pub declares-last : (m : List Declaration) (ts : List Tree) (place : ℕ → ℕ) (k i : ℕ) (es : List Listed) (T all : List Declaration) → length es ≤ i → T
    ++ declarations place k (entries_in m ts (drop i es)) ≡ all → T ≡ all
declares-last m ts place k i es T all l h = sym (append-nil T) ∙ ap (λ x. T ++ declarations place k (entries_in m ts x)) (sym (drop-past es i l)) ∙ h

-- an entry that is kept stands for the module's declaration
pub kept-entry : (ts : List Tree) (ds : List Decl) (i : ℕ) (d : Decl) → slice_get ds i ≡ Some d → declaration_at (map (declaration_in ts) ds) i
    ≡ declaration_in ts d
kept-entry ts ds i d e = ap (λ o. unwrap_or o (symbol [] SortType)) (slice_get-map (declaration_in ts) ds i ∙ ap (option_map (declaration_in ts)) e)

pub made-is : (place : ℕ → ℕ) (target : List Tree) (x y : Declaration) (d : Decl) → x ≡ y → IsMadeOf target x d → IsMadeOf target y d
made-is place target x y d e h = subst (λ w. IsMadeOf target w d) e h
