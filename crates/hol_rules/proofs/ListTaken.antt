-- The constants of a list, by the numbers of a table.
use Rattle.std.proofs.Common.{◌≡◌, ℕ, suc, refl, sym, ap, subst, ◌∙◌, List, [], ◌∷◌, ◌++◌, length, map, None}
use Rattle.std.proofs.lemmas.List.{append_assoc}
use Rattle.std.proofs.Math.Path.{ap₂}
use Rattle.std.specs.List.{AllByRecursion}
use Rattle.hol_spec.specs.DefinitionLists.{ConstantPairs, names_of}
use Rattle.hol_spec.specs.Names.{Name}
use Rattle.hol_spec.specs.Primitives.{bool}
use Rattle.hol_spec.specs.Proofs.{Made, symbols_of, IsStep}
use Rattle.hol_spec.specs.Sequents.{Sequent as ASequent, IsSequent}
use Rattle.hol_spec.specs.Terms.{HasType}
use Rattle.hol_term.specs.declared.TermId.{TermId}
use Rattle.hol_term.specs.declared.Variable.{Variable}
use Rattle.hol_term.specs.Tables.{Trees, term_at, terms_at, IsTermAt}
use Rattle.hol_defs.specs.Faults.{list_fault}
use Rattle.hol_defs.specs.Lists.{pairs_at, AreTerms}
use Rattle.hol_defs.specs.Symbols.{Taken, symbols_at, AreKnownSymbols}
use Rattle.hol_variables.specs.declared.ParamMemo.{ParamMemo}
use Rattle.sequent.specs.declared.Sequent.{Sequent}
use Rattle.sequent.specs.Sequents.{sequent_at}
use Rattle.hol_rules.specs.ConstantLists.{constants_in, named_constants}
use Rattle.hol_rules.specs.Views.{symbol_count, step_view, steps_view, made_of, made_view, IsNumbered, IsStepKnown, IsKept}
use Rattle.hol_rules.specs.declared.made.Made.{Made as OneMade}
use Rattle.hol_rules.specs.declared.made.Made.TheVariants as one
use Rattle.hol_rules.specs.declared.made.Step.{Step}
use Rattle.hol_rules.proofs.Defined.{AreNewly, made_view-defined, IsKept-defined}
use Rattle.hol_rules.proofs.ListConditions.{are-fit}
use Rattle.hol_rules.proofs.ListSymbols.{list-takes, list-made, list-count}
use Rattle.hol_rules.proofs.SideLaws.{term_of}

-- truth values are terms
typed-terms : (trees : Trees) (ids : List TermId) → AllByRecursion (λ h. HasType h bool) (terms_at trees ids) → AreTerms trees ids
typed-terms trees [] h = tt
typed-terms trees (id ∷ ids) h = (term_of (term_at trees id.0) bool h.0, typed-terms trees ids h.1)

-- the numbers of a sequent's terms
module _ (trees : Trees) (s : Sequent) (h : IsSequent (sequent_at trees s)) where
  pub hyps-terms : AreTerms trees s.hyps
  hyps-terms = typed-terms trees s.hyps h.hypotheses

  pub concl-term : IsTermAt trees s.concl.0
  concl-term = term_of (term_at trees s.concl.0) bool h.conclusion

named-names : (trees : Trees) (pairs : List (Name × Variable)) → named_constants pairs ≡ map (λ n. one.Const n) (names_of (pairs_at trees pairs))
named-names trees [] = refl
named-names trees (p ∷ ps) = ap (λ l. one.Const p.0 ∷ l) (named-names trees ps)

named-numbered : (n : ℕ) (pairs : List (Name × Variable)) → AllByRecursion (IsNumbered n) (named_constants pairs)
named-numbered n [] = tt
named-numbered n (p ∷ ps) = (tt {0}, named-numbered n ps)

named-count : (trees : Trees) (pairs : List (Name × Variable)) → symbol_count (named_constants pairs) ≡ length (names_of (pairs_at trees pairs))
named-count trees [] = refl
named-count trees (p ∷ ps) = ap suc (named-count trees ps)

-- constants that are newly taken
pub list-newly : (trees : Trees) (symbols after : List Taken) (xs : List Step) (pairs : List (Name × Variable)) (s : ASequent) → IsSequent s
    → symbols_at trees after ≡ symbols_at trees symbols ++ constants_in (pairs_at trees pairs) s → AreKnownSymbols trees after
    → list_fault (symbols_at trees symbols) (pairs_at trees pairs) s ≡ None
    → AreNewly trees symbols after xs (named_constants pairs) (constants_in (pairs_at trees pairs) s)
list-newly trees symbols after xs pairs s typed is known none =
    let P : ConstantPairs = pairs_at trees pairs in
    let fit = are-fit (symbols_at trees symbols) P s none in
    record {
      is = is;
      names = ap (made_of (constants_in P s) (steps_view trees xs)) (named-names trees pairs)
          ∙ list-made (symbols_at trees symbols) P s typed fit (steps_view trees xs);
      known = known;
      numbered = named-numbered (length xs) pairs;
      count = named-count trees pairs ∙ list-count (symbols_at trees symbols) P s typed fit;
      takes = list-takes (symbols_at trees symbols) P s typed fit;
    }

-- what is judged by numbers is judged of the step
pub list-judged : (trees : Trees) (symbols : List Taken) (made : List Made) (pairs : List (Name × Variable)) (s : Sequent) (ids : List TermId) (t : ASequent)
    → symbols_of made ≡ symbols_at trees symbols → ids ≡ s.hyps → sequent_at trees s ≡ t
    → list_fault (symbols_of made) (pairs_at trees pairs) t
    ≡ list_fault (symbols_at trees symbols) (pairs_at trees pairs) (record { hypotheses = terms_at trees ids; conclusion = term_at trees s.concl.0 })
list-judged trees symbols made pairs s ids t e f is =
    ap₂ (λ ss u. list_fault ss (pairs_at trees pairs) u) e (sym is)
    ∙ ap (λ l. list_fault (symbols_at trees symbols) (pairs_at trees pairs)
    (record { hypotheses = terms_at trees l; conclusion = term_at trees s.concl.0 })) (sym f)

-- the constants are made, and then the step
module _ (trees : Trees) (symbols : List Taken) (xs : List Step) (ms : List OneMade) {memo : ParamMemo} (h : IsKept trees symbols xs ms memo)
    (after : List Taken) (pairs : List (Name × Variable)) (s : ASequent) (typed : IsSequent s)
    (is : symbols_at trees after ≡ symbols_at trees symbols ++ constants_in (pairs_at trees pairs) s) (known : AreKnownSymbols trees after)
    (none : list_fault (symbols_at trees symbols) (pairs_at trees pairs) s ≡ None) (x : Step) where
  abbrev new : AreNewly trees symbols after xs (named_constants pairs) (constants_in (pairs_at trees pairs) s)
  new = list-newly trees symbols after xs pairs s typed is known none

  together : (ms ++ named_constants pairs) ++ one.Step (length xs) ∷ [] ≡ ms ++ (named_constants pairs ++ one.Step (length xs) ∷ [])
  together = append_assoc ms (named_constants pairs) (one.Step (length xs) ∷ [])

  pub made_view-list : made_view trees after (xs ++ x ∷ []) (ms ++ (named_constants pairs ++ one.Step (length xs) ∷ []))
      ≡ (made_view trees symbols xs ms ++ map Made.symbol (constants_in (pairs_at trees pairs) s)) ++ Made.step (step_view trees x) ∷ []
  made_view-list = ap (made_view trees after (xs ++ x ∷ [])) (sym together)
      ∙ made_view-defined trees symbols xs ms h after (named_constants pairs) (constants_in (pairs_at trees pairs) s) new x

  pub IsKept-list : IsStepKnown trees x → IsStep (made_view trees symbols xs ms ++ map Made.symbol (constants_in (pairs_at trees pairs) s)) (step_view trees x)
      → IsKept trees after (xs ++ x ∷ []) (ms ++ (named_constants pairs ++ one.Step (length xs) ∷ [])) memo
  IsKept-list k follows = subst (λ l. IsKept trees after (xs ++ x ∷ []) l memo) together
      (IsKept-defined trees symbols xs ms h after (named_constants pairs) (constants_in (pairs_at trees pairs) s) new x k follows)
