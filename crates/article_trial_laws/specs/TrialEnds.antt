-- What the article's beginning and its ending do.
use Rattle.std.proofs.Common.{◌≡◌, ℕ, pos, true, false, List, [], ◌∷◌, ◌++◌, None, refl, ap, ◌∙◌, Ok, codes, append-nil}
use Rattle.std.specs.List.{list_any}
use Rattle.std.specs.Ordering.{int_cmp, eq_by_cmp}
use Rattle.std.specs.FinMap as entries
use Rattle.hol_spec.specs.Names.{Name}
use Rattle.hol_spec.specs.Primitives.{bool, arrow_name, equality_name, equality_type}
use Rattle.hol_spec.specs.Terms.{Term, app, equation}
use Rattle.hol_spec.specs.Symbols.{Symbol, generic_type, is_input_constant}
use Rattle.hol_spec.specs.Rules.{Parameters}
use Rattle.hol_spec.specs.Proofs.{Made, symbols_of}
use Rattle.hol_spec.specs.declared.StepKind.TheVariants as by_rule
use Rattle.article_spec.specs.declared.commands.Item.{Item}
use Rattle.article_spec.specs.declared.commands.Word.TheVariants as word
use Rattle.article_spec.specs.State.{State, initial, Object, Objects, theorem, none, more}
use Rattle.article_spec.specs.State as object
use Rattle.article_spec.specs.Changes.{with_step, next_step}
use Rattle.article_spec.specs.RuleSteps.{step_by, restatement}
use Rattle.article_spec.specs.Step.{obey}
use Rattle.article_trial_laws.specs.Trials.{f, constant_name, truths, p, at_p}
use Rattle.article_trial_laws.specs.TrialLines.{said}
use Rattle.article_trial_laws.specs.TrialSymbols.{f-undefined, f-input}
use Rattle.article_trial_laws.specs.TrialSteps.{Dictionary, Has, Has-own, Has-other, refers, follows_word, IsAt, sequent_at-is, obeyed, obeyed-then, state}
use Rattle.article_trial_laws.specs.TrialBlocks.{x, p_is_p, are_alike}
use Rattle.article_trial_laws.specs.TrialRuns.{Ready, Chained}
use Rattle.hol_laws.specs.NameEqualityLaws.{name_eq-refl}

-- the dictionary and what is made as the beginning goes on
abbrev d_0 : Dictionary
d_0 = entries.insert entries.empty (pos 0) (object.type bool)

abbrev d_1 : Dictionary
d_1 = entries.insert d_0 (pos 1) (object.type truths)

abbrev d_3 : Dictionary
d_3 = entries.insert (entries.insert d_1 (pos 2) (object.term p)) (pos 3) (theorem 0)

abbrev d_4 : Dictionary
d_4 = entries.insert d_3 (pos 4) (object.variable x)

abbrev pub d_5 : Dictionary
d_5 = entries.insert d_4 (pos 5) (object.term (Term.constant f truths))

abbrev reflexive : Made
reflexive = Made.step (step_by by_rule.Refl [] (Parameters.term p) p_is_p)

abbrev pub made_5 : List Made
made_5 = reflexive ∷ Made.symbol (Symbol.input_constant f) ∷ []

-- the parts of the beginning
abbrev of_bool : List Item
of_bool = said (codes "6 version \"bool\" typeOp nil opType 0 def pop")

abbrev of_functions : List Item
of_functions = said (codes "\"->\" typeOp 0 ref 0 ref nil cons cons opType 1 def pop")

abbrev of_p : List Item
of_p = said (codes "\"p\" 0 ref var varTerm 2 def refl 3 def pop")

abbrev of_x : List Item
of_x = said (codes "\"x\" 0 ref var 4 def pop")

abbrev of_f : List Item
of_f = said (codes "\"f\" const 1 ref constTerm 5 def pop")

gives_bool : obeyed initial of_bool ≡ Ok (state d_0 [] [])
gives_bool = refl

gives_functions : (d : Dictionary) → Has d 0 (object.type bool)
    → obeyed (state d [] []) of_functions ≡ Ok (state (entries.insert d (pos 1) (object.type truths)) [] [])
gives_functions d h =
    refers 0 (object.type bool) d [] (object.type_operator arrow_name ∷ []) (said (codes "0 ref nil cons cons opType 1 def pop")) h
    ∙ refers 0 (object.type bool) d [] (object.type bool ∷ object.type_operator arrow_name ∷ []) (said (codes "nil cons cons opType 1 def pop")) h

gives_p : (d : Dictionary) → Has d 0 (object.type bool)
    → obeyed (state d [] []) of_p
    ≡ Ok (state (entries.insert (entries.insert d (pos 2) (object.term p)) (pos 3) (theorem 0)) (reflexive ∷ []) [])
gives_p d h = refers 0 (object.type bool) d [] (object.name (codes "p" ∷ []) ∷ []) (said (codes "var varTerm 2 def refl 3 def pop")) h

gives_x : (d : Dictionary) → Has d 0 (object.type bool)
    → obeyed (state d (reflexive ∷ []) []) of_x ≡ Ok (state (entries.insert d (pos 4) (object.variable x)) (reflexive ∷ []) [])
gives_x d h = refers 0 (object.type bool) d (reflexive ∷ []) (object.name (codes "x" ∷ []) ∷ []) (said (codes "var 4 def pop")) h

gives_f : (d : Dictionary) → Has d 1 (object.type truths)
    → obeyed (state d (reflexive ∷ []) []) of_f ≡ Ok (state (entries.insert d (pos 5) (object.term (Term.constant f truths))) made_5 [])
gives_f d h = refers 1 (object.type truths) d (reflexive ∷ []) (object.constant f ∷ []) (said (codes "constTerm 5 def pop")) h

has_0 : Has d_0 0 (object.type bool)
has_0 = Has-own entries.empty 0 (object.type bool) refl

has_1 : Has d_1 0 (object.type bool)
has_1 = Has-other d_0 1 (object.type truths) 0 (object.type bool) refl has_0

-- what stands in the dictionary from p on stays there
stays_3 : (j : ℕ) (y : Object) → Has d_1 j y → eq_by_cmp int_cmp (pos j) (pos 2) ≡ false → eq_by_cmp int_cmp (pos j) (pos 3) ≡ false → Has d_3 j y
stays_3 j y h two three = Has-other (entries.insert d_1 (pos 2) (object.term p)) 3 (theorem 0) j y three (Has-other d_1 2 (object.term p) j y two h)

stays_5 : (j : ℕ) (y : Object) → Has d_3 j y → eq_by_cmp int_cmp (pos j) (pos 4) ≡ false → eq_by_cmp int_cmp (pos j) (pos 5) ≡ false → Has d_5 j y
stays_5 j y h four five = Has-other d_4 5 (object.term (Term.constant f truths)) j y five (Has-other d_3 4 (object.variable x) j y four h)

has_3 : Has d_3 0 (object.type bool)
has_3 = stays_3 0 (object.type bool) has_1 refl refl

types_3 : Has d_3 1 (object.type truths)
types_3 = stays_3 1 (object.type truths) (Has-own d_0 1 (object.type truths) refl) refl refl

-- the parts from one on
abbrev from_x : List Item
from_x = of_x ++ of_f

abbrev from_p : List Item
from_p = of_p ++ from_x

abbrev from_functions : List Item
from_functions = of_functions ++ from_p

abbrev pub beginning_items : List Item
beginning_items = of_bool ++ from_functions

pub begins : obeyed initial beginning_items ≡ Ok (state d_5 made_5 [])
begins =
    obeyed-then of_bool from_functions initial (state d_0 [] []) (Ok (state d_5 made_5 [])) gives_bool
    (obeyed-then of_functions from_p (state d_0 [] []) (state d_1 [] []) (Ok (state d_5 made_5 [])) (gives_functions d_0 has_0)
    (obeyed-then of_p from_x (state d_1 [] []) (state d_3 (reflexive ∷ []) []) (Ok (state d_5 made_5 [])) (gives_p d_1 has_1)
    (obeyed-then of_x of_f (state d_3 (reflexive ∷ []) []) (state d_4 (reflexive ∷ []) []) (Ok (state d_5 made_5 [])) (gives_x d_3 has_3)
    (gives_f d_4 (Has-other d_3 4 (object.variable x) 1 (object.type truths) refl types_3)))))

pub ready_at_first : Ready 0 d_5 made_5
ready_at_first = record {
  at_0 = stays_5 0 (object.type bool) has_3 refl refl;
  at_1 = stays_5 1 (object.type truths) types_3 refl refl;
  at_2 = stays_5 2 (object.term p)
      (Has-other (entries.insert d_1 (pos 2) (object.term p)) 3 (theorem 0) 2 (object.term p) refl (Has-own d_1 2 (object.term p) refl)) refl refl;
  reflexive = 0;
  at_3 = stays_5 3 (theorem 0) (Has-own (entries.insert d_1 (pos 2) (object.term p)) 3 (theorem 0) refl) refl refl;
  says = refl;
  at_4 = Has-other d_4 5 (object.term (Term.constant f truths)) 4 (object.variable x) refl (Has-own d_3 4 (object.variable x) refl);
  at_5 = Has-own d_4 5 (object.term (Term.constant f truths)) refl;
  taken = refl;
}

-- equality at bool
abbrev equality : Term
equality = Term.constant equality_name (equality_type bool)

-- the parts of the ending
abbrev to_equality : List Item
to_equality = said (codes "7 ref nil \"=\" const \"->\" typeOp 0 ref 1 ref nil cons cons opType constTerm")

abbrev to_sides : List Item
to_sides = said (codes "5 ref 2 ref appTerm appTerm \"f\" const 1 ref constTerm")

abbrev to_export : List Item
to_export = said (codes "2 ref appTerm appTerm thm")

abbrev pub ending_items : List Item
ending_items = to_equality ++ (to_sides ++ to_export)

module _ (d : Dictionary) (made : List Made) where
  -- the type bool -> bool -> bool, and equality at it
  makes_type : (rest : List Object)
      → obey (state d made (object.list (more (object.type bool) (more (object.type truths) none)) ∷ object.type_operator arrow_name ∷ rest)) word.OpType
      ≡ Ok (state d made (object.type (equality_type bool) ∷ rest))
  makes_type rest = rw (append-nil made) refl

  makes_equality : (rest : List Object)
      → obey (state d made (object.type (equality_type bool) ∷ object.constant equality_name ∷ rest)) word.ConstTerm
      ≡ Ok (state d made (object.term equality ∷ rest))
  makes_equality rest = rw (append-nil made) refl

  gives_equality : (k : ℕ) → Has d 7 (theorem k) → Has d 0 (object.type bool) → Has d 1 (object.type truths)
      → obeyed (state d made []) to_equality ≡ Ok (state d made (object.term equality ∷ object.list none ∷ theorem k ∷ []))
  gives_equality k at_7 at_0 at_1 =
      let rest : List Object = object.list none ∷ theorem k ∷ [] in
      let named : List Object = object.constant equality_name ∷ rest in
      let typed : List Object = object.type_operator arrow_name ∷ named in
      refers 7 (theorem k) d made [] (said (codes "nil \"=\" const \"->\" typeOp 0 ref 1 ref nil cons cons opType constTerm")) at_7
      ∙ refers 0 (object.type bool) d made typed (said (codes "1 ref nil cons cons opType constTerm")) at_0
      ∙ refers 1 (object.type truths) d made (object.type bool ∷ typed) (said (codes "nil cons cons opType constTerm")) at_1
      ∙ follows_word word.OpType d made (object.list (more (object.type bool) (more (object.type truths) none)) ∷ typed) _ (said (codes "constTerm"))
      (makes_type named)
      ∙ follows_word word.ConstTerm d made (object.type (equality_type bool) ∷ named) _ [] (makes_equality rest)

  makes_f : (rest : List Object) → generic_type (symbols_of made) f ≡ None → list_any (is_input_constant f) (symbols_of made) ≡ true
      → obey (state d made (object.type truths ∷ object.constant f ∷ rest)) word.ConstTerm ≡ Ok (state d made (object.term (Term.constant f truths) ∷ rest))
  makes_f rest generic input = rw (generic, input, append-nil made) refl

  gives_sides : (n : Name) (rest : List Object) → Has d 5 (object.term (Term.constant n truths)) → Has d 2 (object.term p) → Has d 1 (object.type truths)
      → generic_type (symbols_of made) f ≡ None → list_any (is_input_constant f) (symbols_of made) ≡ true
      → obeyed (state d made (object.term equality ∷ rest)) to_sides
      ≡ Ok (state d made (object.term (Term.constant f truths) ∷ object.term (app equality (at_p n)) ∷ rest))
  gives_sides n rest at_5 at_2 at_1 generic input =
      refers 5 (object.term (Term.constant n truths)) d made (object.term equality ∷ rest) (said (codes "2 ref appTerm appTerm \"f\" const 1 ref constTerm"))
      at_5
      ∙ refers 2 (object.term p) d made (object.term (Term.constant n truths) ∷ object.term equality ∷ rest)
      (said (codes "appTerm appTerm \"f\" const 1 ref constTerm")) at_2
      ∙ refers 1 (object.type truths) d made (object.constant f ∷ object.term (app equality (at_p n)) ∷ rest) (said (codes "constTerm")) at_1
      ∙ follows_word word.ConstTerm d made (object.type truths ∷ object.constant f ∷ object.term (app equality (at_p n)) ∷ rest) _ []
      (makes_f (object.term (app equality (at_p n)) ∷ rest) generic input)

  -- the state behind the export of a theorem
  abbrev pub exported : ℕ → Name → State
  exported k n = record (with_step (state d made []) (restatement k (are_alike n f))) { exports = next_step (state d made []) ∷ [] }

  exports : (k : ℕ) (n : Name) → IsAt made k (are_alike n f)
      → obey (state d made (object.term (equation bool (at_p n) (at_p f)) ∷ object.list none ∷ theorem k ∷ [])) word.Thm ≡ Ok (exported k n)
  exports k n says = rw (sequent_at-is made k _ says, name_eq-refl n) refl

  gives_export : (k : ℕ) (n : Name) → Has d 2 (object.term p) → IsAt made k (are_alike n f)
      → obeyed (state d made (object.term (Term.constant f truths) ∷ object.term (app equality (at_p n)) ∷ object.list none ∷ theorem k ∷ [])) to_export
      ≡ Ok (exported k n)
  gives_export k n at_2 says =
      refers 2 (object.term p) d made (object.term (Term.constant f truths) ∷ object.term (app equality (at_p n)) ∷ object.list none ∷ theorem k ∷ [])
      (said (codes "appTerm appTerm thm")) at_2
      ∙ follows_word word.Thm d made (object.term (equation bool (at_p n) (at_p f)) ∷ object.list none ∷ theorem k ∷ []) _ [] (exports k n says)

-- after n blocks the ending exports that the last constant is f at p
pub ending_exports : (n : ℕ) (d : Dictionary) (made : List Made) → Ready n d made → (c : Chained n d made)
    → obeyed (state d made []) ending_items ≡ Ok (exported d made c.number (constant_name n))
ending_exports n d made r c =
    let generic : generic_type (symbols_of made) f ≡ None = ap (λ symbols. generic_type symbols f) r.taken ∙ f-undefined n in
    let input : list_any (is_input_constant f) (symbols_of made) ≡ true = ap (list_any (is_input_constant f)) r.taken ∙ f-input n in
    let stated : State = state d made (object.term equality ∷ object.list none ∷ theorem c.number ∷ []) in
    let sided : State = state d made
    (object.term (Term.constant f truths) ∷ object.term (app equality (at_p (constant_name n))) ∷ object.list none ∷ theorem c.number ∷ []) in
    obeyed-then to_equality (to_sides ++ to_export) (state d made []) stated (Ok (exported d made c.number (constant_name n)))
    (gives_equality d made c.number c.at_7 r.at_0 r.at_1)
    (obeyed-then to_sides to_export stated sided (Ok (exported d made c.number (constant_name n)))
    (gives_sides d made (constant_name n) (object.list none ∷ theorem c.number ∷ []) r.at_5 r.at_2 r.at_1 generic input)
    (gives_export d made c.number (constant_name n) r.at_2 c.says))
