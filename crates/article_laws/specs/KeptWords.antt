-- Each word keeps what the moves keep. A run is walked here alone: what is true of every state of a run is an instance.
use Rattle.std.proofs.Common.{◌≡◌, ℕ, ℤ, List, [], ◌∷◌, ◌++◌, map, length, Bool, true, false, cond, Option, None, Some, Result, Ok, refl, sym, subst, ◌∙◌}
use Rattle.std.specs.Prelude.{is_some}
use Rattle.std.specs.Option.{ok_or, option_or}
use Rattle.std.specs.List.{AllByRecursion}
use Rattle.std.specs.Ordering.{int_cmp, eq_by_cmp}
use Rattle.std.specs.Cmp.{int_cmp_total}
use Rattle.std.specs.FinMap as entries
use Rattle.common.specs.declared.faults.Kind.{Kind}
use Rattle.common.specs.declared.faults.Kind.TheVariants.{NoSuchKey, TypeMismatch}
use Rattle.hol_spec.specs.Types.{HolType, types_of}
use Rattle.hol_spec.specs.Terms.{Term, type_of}
use Rattle.hol_spec.specs.Limits.{SequentWithin}
use Rattle.hol_spec.specs.Definitions.{Definition, TypeNames}
use Rattle.hol_spec.specs.DefinitionLists.{ConstantPairs, names_of, definitions_in}
use Rattle.hol_spec.specs.Symbols.{Symbol, defined, generic_type, operator_arity, new_constant, new_operator}
use Rattle.hol_spec.specs.Rules.{abstraction}
use Rattle.hol_spec.specs.Proofs.{Made, Step, symbols_of, sequent_at}
use Rattle.hol_laws.specs.Members.{All-weaker}
use Rattle.article_spec.specs.State.{Object, State, version_at}
use Rattle.article_spec.specs.State as object
use Rattle.article_spec.specs.Operands.{as_number, as_name, as_names, as_list, as_type_operator, as_type, as_types, as_constant, as_variable, as_term, as_terms, as_theorem, as_constant_pairs, as_substitution, any_object, head_and_tail, pop}
use Rattle.article_spec.specs.Results.{◌>>=◌, ◌>>◌}
use Rattle.article_spec.specs.Conditions.{demand, type_in_limits, term_in_limits, sequent_in_limits, arity_fits, generic_fits}
use Rattle.article_spec.specs.Changes.{with_stack, with_symbols, with_theorem, with_type, with_step, next_step, conclude, by_step, defining, defining_type, first_same}
use Rattle.article_spec.specs.RuleSteps.{refl_step, assume_step, eq_mp_step, abs_thm_step, app_thm_step, deduct_antisym_step, beta_conv_step, sym_step, trans_step, prove_hyp_step, subst_step, define_const_step, define_const_list_step, type_laws, axiom_step, restate_step, restatement}
use Rattle.article_spec.specs.Building.{nil, cons, hd_tl, type_op, var_type, op_type, const, const_term, var, var_term, app_term, abs_term, def, ref, remove, drop_object}
use Rattle.article_spec.specs.DefiningWords.{define_const, constant_objects, define_const_list, define_type_op}
use Rattle.article_spec.specs.Stating.{assume_or_meet, axiom_word, export, thm}
use Rattle.article_spec.specs.Step.{obey}
use Rattle.article_spec.specs.declared.commands.Word.{Word}
use Rattle.article_spec.specs.declared.commands.Word.TheVariants as word
use Rattle.article_laws.specs.Binds.{bound, passed, demanded, found, sequent_limits, term_limits, type_limits}
use Rattle.article_laws.specs.Inferred.{Inferred}
use Rattle.article_laws.specs.Inferred.Inferred.{by_refl, by_assume, by_eq_mp, by_abs_thm, by_app_thm, by_deduct_antisym, by_beta_conv, by_sym, by_trans, by_prove_hyp, by_subst}
use Rattle.article_laws.specs.Moves.{Invariant, RunHas, ObjectsHave, Holds, with_constants, Moves}
use Rattle.article_laws.specs.OperandParts.{Gives, any-gives, Anything, object-gives, list-gives, name-gives, type_operator-gives, constant-gives, type-gives, variable-gives, term-gives, theorem-gives, list_of-gives, types-gives, terms-gives, IsTypePair, IsTermPair, substitution-gives, IsConstantPair, constant_pairs-gives, head_and_tail-gives, popping}
use Rattle.article_laws.specs.Parts.{Parts, IsOf, AreOf}

-- a dictionary with one entry more, and one less
module _ (p : Parts) (d : entries.FinMap int_cmp Object) (h : (j : ℤ) (y : Object) → entries.get d j ≡ Some y → IsOf p y) (k : ℤ) where
  inserted : (x : Object) → IsOf p x → (j : ℤ) (y : Object) → entries.get (entries.insert d k x) j ≡ Some y → IsOf p y
  inserted x q j y e = go (eq_by_cmp int_cmp j k) (sym (entries.get-insert int_cmp_total d k x j) ∙ e)
    where
      go : (b : Bool) → cond b (Some x) (entries.get d j) ≡ Some y → IsOf p y
      go true f = let same : x ≡ y = cc in subst (IsOf p) same q
      go false f = h j y f

  taken_out : (j : ℤ) (y : Object) → entries.get (entries.remove d k) j ≡ Some y → IsOf p y
  taken_out j y e = go (eq_by_cmp int_cmp j k) (sym (entries.get-remove int_cmp_total d k j) ∙ e)
    where
      go : (b : Bool) → cond b None (entries.get d j) ≡ Some y → IsOf p y
      go true f = absurd (cc)
      go false f = h j y f

-- what an answer goes on with
binding : {A R : Type 0} (r : Result A Kind) (f : A → Result State Kind) (t : State) → (r >>= f) ≡ Ok t → ((a : A) → r ≡ Ok a → f a ≡ Ok t → R) → R
binding r f t e go = let b = bound r f t e in go b.0 b.1 b.2

passing : {A R : Type 0} (r : Result A Kind) (q : Result State Kind) (t : State) → (r >> q) ≡ Ok t → ((a : A) → r ≡ Ok a → q ≡ Ok t → R) → R
passing r q t e go = let b = passed r q t e in go b.0 b.1 b.2

module _ (i : Invariant) where
  pub answered : (u t : State) → ◌≡◌ {A = Result State Kind} (Ok u) (Ok t) → Holds i u → Holds i t
  answered u t e h = let f : u ≡ t = cc in subst (Holds i) f h

  -- another stack of such objects
  restacked : (s : State) (stack : List Object) → Holds i s → AllByRecursion (IsOf (i.parts s.made)) stack → Holds i (with_stack s stack)
  restacked s stack g h = record { objects = record { stacked = h; kept = g.objects.kept }; run = g.run }

  stacked : (s t : State) (stack : List Object) → ◌≡◌ {A = Result State Kind} (Ok (with_stack s stack)) (Ok t) → Holds i s
      → AllByRecursion (IsOf (i.parts s.made)) stack → Holds i t
  stacked s t stack e g h = answered (with_stack s stack) t e (restacked s stack g h)

module _ (i : Invariant) (moves : Moves i) where
  -- objects when more is made, and with the theorem of a new step
  older : (m ys : List Made) (stack : List Object) (d : entries.FinMap int_cmp Object) → ObjectsHave (i.parts m) stack d
      → ObjectsHave (i.parts (m ++ ys)) stack d
  older m ys stack d h = record {
    stacked = All-weaker (IsOf (i.parts m)) (IsOf (i.parts (m ++ ys))) (moves.more m ys) stack h.stacked;
    kept = λ k x e. moves.more m ys x (h.kept k x e);
  }

  with_step-objects : (s : State) (x : Step) → ObjectsHave (i.parts s.made) s.stack s.dictionary
      → ObjectsHave (i.parts (with_theorem s x).made) (with_theorem s x).stack s.dictionary
  with_step-objects s x h =
      let o = older s.made (Made.step x ∷ []) s.stack s.dictionary h in
      record { stacked = (moves.new_step s.made x, o.stacked); kept = o.kept }

  concluded : (u t : State) (x : Step) → ObjectsHave (i.parts u.made) u.stack u.dictionary → (SequentWithin x.sequent → RunHas i (with_theorem u x))
      → conclude u x ≡ Ok t → Holds i t
  concluded u t x h run e =
      let limits = passed (sequent_in_limits x.sequent) _ t e in
      answered i (with_theorem u x) t limits.2 (record { objects = with_step-objects u x h; run = run (sequent_limits x.sequent limits.0 limits.1) })

  -- an object on the rest, over symbols that are newly taken
  taking : (s t : State) (xs : List Symbol) (x : Object) (rest : List Object)
      → ◌≡◌ {A = Result State Kind} (Ok (with_symbols (with_stack s (x ∷ rest)) xs)) (Ok t) → Holds i s → AllByRecursion (IsOf (i.parts s.made)) rest
      → RunHas i (with_symbols s xs) × IsOf (i.parts (with_symbols s xs).made) x → Holds i t
  taking s t xs x rest e g h new =
      let o = older s.made (map Made.symbol xs) rest s.dictionary (record { stacked = h; kept = g.objects.kept }) in
      answered i (with_symbols (with_stack s (x ∷ rest)) xs) t e (record { objects = record { stacked = (new.1, o.stacked); kept = o.kept }; run = new.0 })

  -- a word in a state
  module _ (s t : State) (g : Holds i s) where
    abbrev p : Parts
    p = i.parts s.made

    abbrev objects : AllByRecursion (IsOf p) s.stack
    objects = g.objects.stacked

    nil-keeps : nil s ≡ Ok t → Holds i t
    nil-keeps e = stacked i s t (object.list object.none ∷ s.stack) e g (tt {0}, objects)

    cons-keeps : cons s ≡ Ok t → Holds i t
    cons-keeps e =
        popping p as_list (AreOf p) (list-gives p) s.stack objects _ t e (λ tail below h under e.
        popping p any_object (IsOf p) (object-gives p) below under _ t e (λ head rest k under e.
        stacked i s t (object.list (object.more head tail) ∷ rest) e g ((k, h), under)))

    hd_tl-keeps : hd_tl s ≡ Ok t → Holds i t
    hd_tl-keeps e =
        popping p as_list (AreOf p) (list-gives p) s.stack objects _ t e (λ xs rest h under e.
        binding (head_and_tail xs) _ t e (λ parts is e.
        let k = head_and_tail-gives p xs parts h is in
        stacked i s t (object.list parts.1 ∷ parts.0 ∷ rest) e g (k.1, (k.0, under))))

    type_op-keeps : type_op s ≡ Ok t → Holds i t
    type_op-keeps e =
        popping p as_name p.name (name-gives p) s.stack objects _ t e (λ n rest h under e.
        stacked i s t (object.type_operator n ∷ rest) e g (h, under))

    var_type-keeps : var_type s ≡ Ok t → Holds i t
    var_type-keeps e =
        popping p as_name p.name (name-gives p) s.stack objects _ t e (λ n rest h under e.
        stacked i s t (object.type (HolType.variable n) ∷ rest) e g (moves.type_variable s.made n h, under))

    op_type-keeps : op_type s ≡ Ok t → Holds i t
    op_type-keeps e =
        popping p as_types (AllByRecursion p.type) (types-gives p) s.stack objects _ t e (λ ts below h under e.
        popping p as_type_operator p.name (type_operator-gives p) below under _ t e (λ n rest k under e.
        let whole = HolType.operator n (types_of ts) in
        passing (arity_fits (operator_arity (symbols_of s.made) n) (length ts)) _ t e (λ u fits e.
        passing (type_in_limits whole) _ t e (λ v limit e.
        taking s t (new_operator (symbols_of s.made) n (length ts)) (object.type whole) rest e g under
        (moves.operator s n ts u g.run k h fits (type_limits whole v limit))))))

    const-keeps : const s ≡ Ok t → Holds i t
    const-keeps e =
        popping p as_name p.name (name-gives p) s.stack objects _ t e (λ n rest h under e.
        stacked i s t (object.constant n ∷ rest) e g (h, under))

    const_term-keeps : const_term s ≡ Ok t → Holds i t
    const_term-keeps e =
        popping p as_type p.type (type-gives p) s.stack objects _ t e (λ a below h under e.
        popping p as_constant p.name (constant-gives p) below under _ t e (λ n rest k under e.
        let whole = Term.constant n a in
        passing (generic_fits (generic_type (symbols_of s.made) n) a) _ t e (λ u fits e.
        passing (term_in_limits whole) _ t e (λ v limit e.
        taking s t (new_constant (symbols_of s.made) n) (object.term whole) rest e g under
        (moves.constant s n a u g.run k h fits (term_limits whole v limit))))))

    var-keeps : var s ≡ Ok t → Holds i t
    var-keeps e =
        popping p as_type p.type (type-gives p) s.stack objects _ t e (λ a below h under e.
        popping p as_name p.name (name-gives p) below under _ t e (λ n rest k under e.
        stacked i s t (object.variable (n, a) ∷ rest) e g (moves.variable s.made (n, a) k h, under)))

    var_term-keeps : var_term s ≡ Ok t → Holds i t
    var_term-keeps e =
        popping p as_variable p.variable (variable-gives p) s.stack objects _ t e (λ v rest h under e.
        let whole = Term.free v.0 v.1 in
        passing (term_in_limits whole) _ t e (λ u limit e.
        stacked i s t (object.term whole ∷ rest) e g (moves.free s.made v h (term_limits whole u limit), under)))

    app_term-keeps : app_term s ≡ Ok t → Holds i t
    app_term-keeps e =
        popping p as_term p.term (term-gives p) s.stack objects _ t e (λ x below h under e.
        popping p as_term p.term (term-gives p) below under _ t e (λ f rest k under e.
        let whole = Term.app f x in
        passing (demand (is_some (type_of whole)) TypeMismatch) _ t e (λ u fits e.
        passing (term_in_limits whole) _ t e (λ v limit e.
        let typed = demanded (is_some (type_of whole)) TypeMismatch u fits in
        stacked i s t (object.term whole ∷ rest) e g (moves.app s.made f x k h typed (term_limits whole v limit), under)))))

    abs_term-keeps : abs_term s ≡ Ok t → Holds i t
    abs_term-keeps e =
        popping p as_term p.term (term-gives p) s.stack objects _ t e (λ b below h under e.
        popping p as_variable p.variable (variable-gives p) below under _ t e (λ v rest k under e.
        let whole = abstraction v b in
        passing (term_in_limits whole) _ t e (λ u limit e.
        stacked i s t (object.term whole ∷ rest) e g (moves.abstracted s.made v b k h (term_limits whole u limit), under))))

    def-keeps : def s ≡ Ok t → Holds i t
    def-keeps e =
        popping p as_number (Anything p) (any-gives p as_number) s.stack objects _ t e (λ k below h under e.
        popping p any_object (IsOf p) (object-gives p) below under _ t e (λ x rest j over e.
        answered i _ t e (record { objects = record { stacked = under; kept = inserted p s.dictionary g.objects.kept k x j }; run = g.run })))

    ref-keeps : ref s ≡ Ok t → Holds i t
    ref-keeps e =
        popping p as_number (Anything p) (any-gives p as_number) s.stack objects _ t e (λ k rest h under e.
        binding (ok_or (entries.get s.dictionary k) NoSuchKey) _ t e (λ x is e.
        stacked i s t (x ∷ rest) e g (g.objects.kept k x (found (entries.get s.dictionary k) NoSuchKey x is), under)))

    remove-keeps : remove s ≡ Ok t → Holds i t
    remove-keeps e =
        popping p as_number (Anything p) (any-gives p as_number) s.stack objects _ t e (λ k rest h under e.
        binding (ok_or (entries.get s.dictionary k) NoSuchKey) _ t e (λ x is e.
        let top = g.objects.kept k x (found (entries.get s.dictionary k) NoSuchKey x is) in
        answered i _ t e (record { objects = record { stacked = (top, under); kept = taken_out p s.dictionary g.objects.kept k }; run = g.run })))

    drop_object-keeps : drop_object s ≡ Ok t → Holds i t
    drop_object-keeps e = popping p any_object (IsOf p) (object-gives p) s.stack objects _ t e (λ x rest h under e. stacked i s t rest e g under)

    -- a word that pops one operand, or two, and concludes the step of a rule
    by_rule : (rest : List Object) → AllByRecursion (IsOf p) rest → (rule : Result Step Kind) → ((x : Step) → rule ≡ Ok x → Inferred p s.made x)
        → by_step rule (with_stack s rest) ≡ Ok t → Holds i t
    by_rule rest h rule f e =
        binding rule _ t e (λ x is e. concluded (with_stack s rest) t x (record { stacked = h; kept = g.objects.kept }) (moves.rule s x g.run (f x is)) e)

    of_one : {A : Type 0} (as_one : Object → Result A Kind) (P : A → Type 0) → Gives p as_one P → (rule : A → Result Step Kind)
        → ((a : A) (x : Step) → P a → rule a ≡ Ok x → Inferred p s.made x)
        → (pop as_one s.stack >>= λ q. by_step (rule q.0) (with_stack s q.1)) ≡ Ok t → Holds i t
    of_one as_one P gives rule f e =
        popping p as_one P gives s.stack objects _ t e (λ a rest h under e. by_rule rest under (rule a) (λ x k. f a x h k) e)

    of_two : {A B : Type 0} (as_one : Object → Result A Kind) (P : A → Type 0) → Gives p as_one P → (as_two : Object → Result B Kind) (Q : B → Type 0)
        → Gives p as_two Q → (rule : A → B → Result Step Kind) → ((a : A) (b : B) (x : Step) → P a → Q b → rule a b ≡ Ok x → Inferred p s.made x)
        → (pop as_one s.stack >>= λ q. pop as_two q.1 >>= λ r. by_step (rule q.0 r.0) (with_stack s r.1)) ≡ Ok t → Holds i t
    of_two as_one P gives as_two Q also rule f e =
        popping p as_one P gives s.stack objects _ t e (λ a below h under e.
        popping p as_two Q also below under _ t e (λ b rest k under e. by_rule rest under (rule a b) (λ x l. f a b x h k l) e))

    of_term : (rule : Term → Result Step Kind) → ((a : Term) (x : Step) → p.term a → rule a ≡ Ok x → Inferred p s.made x)
        → (pop as_term s.stack >>= λ q. by_step (rule q.0) (with_stack s q.1)) ≡ Ok t → Holds i t
    of_term rule f e = of_one as_term p.term (term-gives p) rule f e

    -- the one on top is the second
    of_theorems : (rule : ℕ → ℕ → Result Step Kind) → ((k j : ℕ) (x : Step) → p.step k → p.step j → rule j k ≡ Ok x → Inferred p s.made x)
        → (pop as_theorem s.stack >>= λ q. pop as_theorem q.1 >>= λ r. by_step (rule r.0 q.0) (with_stack s r.1)) ≡ Ok t → Holds i t
    of_theorems rule f e = of_two as_theorem p.step (theorem-gives p) as_theorem p.step (theorem-gives p) (λ k j. rule j k) f e

    -- constants are defined over another stack, and a step is concluded
    define-keeps : (ds : List Definition) (stack : List Object) (rule : Result Step Kind) → AllByRecursion (IsOf p) stack
        → ((x : Step) → rule ≡ Ok x → SequentWithin x.sequent → RunHas i (with_step (with_constants s ds) x))
        → defining (map defined ds) rule (with_stack s stack) ≡ Ok t → Holds i t
    define-keeps ds stack rule h run e =
        let over = older s.made (map Made.symbol (map defined ds)) stack s.dictionary (record { stacked = h; kept = g.objects.kept }) in
        binding rule _ t e (λ x is e. concluded (with_constants (with_stack s stack) ds) t x over (run x is) e)

    define_const-keeps : define_const s ≡ Ok t → Holds i t
    define_const-keeps e =
        popping p as_term p.term (term-gives p) s.stack objects _ t e (λ u below h under e.
        popping p as_name p.name (name-gives p) below under _ t e (λ n rest k under e.
        define-keeps (Definition.constant n u ∷ []) (object.constant n ∷ rest) (define_const_step s.made n u) (k, under)
        (λ x is l. moves.define_const s n u x g.run k h is l) e))

    constants : (pairs : ConstantPairs) → AllByRecursion (IsConstantPair p) pairs → AreOf p (constant_objects (names_of pairs))
    constants [] h = tt
    constants (q ∷ qs) h = (h.0.0, constants qs h.1)

    define_const_list-keeps : define_const_list s ≡ Ok t → Holds i t
    define_const_list-keeps e =
        popping p as_theorem p.step (theorem-gives p) s.stack objects _ t e (λ j below h under e.
        popping p as_constant_pairs (AllByRecursion (IsConstantPair p)) (constant_pairs-gives p) below under _ t e (λ qs rest k under e.
        define-keeps (definitions_in qs (sequent_at s.made j).hypotheses) (object.list (constant_objects (names_of qs)) ∷ rest)
        (define_const_list_step s.made qs j) (constants qs k, under)
        (λ x is l. moves.define_const_list s qs j x g.run k h is l) e))

    -- the two constants and the operator on the rest
    abbrev named : TypeNames → List Object → List Object
    named names rest = object.constant names.representation ∷ object.constant names.abstraction ∷ object.type_operator names.operator ∷ rest

    defining_type-keeps : (names : TypeNames) (j : ℕ) (rest : List Object) → AllByRecursion (IsOf p) rest
        → p.name names.operator × p.name names.abstraction × p.name names.representation → AllByRecursion p.name names.variables → p.step j
        → defining_type (type_laws (version_at s.place) s.made names j) (with_stack s (named names rest)) ≡ Ok t → Holds i t
    defining_type-keeps names j rest under h w k e =
        binding (type_laws (version_at s.place) s.made names j) _ t e (λ x is e.
        let u = with_stack s (named names rest) in
        let v : State = record u { made = u.made ++ x.definition ∷ [] } in
        let over = older s.made (x.definition ∷ []) u.stack s.dictionary (record { stacked = (h.2, (h.1, (h.0, under))); kept = g.objects.kept }) in
        answered i (with_type u x) t e (record {
          objects = with_step-objects (with_theorem v x.first) x.second (with_step-objects v x.first over);
          run = moves.define_type_op s names j x g.run h w k is;
        }))

    define_type_op-keeps : define_type_op s ≡ Ok t → Holds i t
    define_type_op-keeps e =
        popping p as_theorem p.step (theorem-gives p) s.stack objects _ t e (λ j xs h under e.
        popping p as_names (AllByRecursion p.name) (list_of-gives p as_name p.name (name-gives p)) xs under _ t e (λ vs xs n under e.
        popping p as_name p.name (name-gives p) xs under _ t e (λ r xs k under e.
        popping p as_name p.name (name-gives p) xs under _ t e (λ a xs l under e.
        popping p as_name p.name (name-gives p) xs under _ t e (λ o rest m under e.
        defining_type-keeps (record { operator = o; abstraction = a; representation = r; variables = vs }) j rest under (m, l, k) n h e)))))

  met : (s t : State) (hs : List Term) (c : Term) (x : Step) (o : Option ℕ) → Holds i s → AllByRecursion (i.parts s.made).term hs → (i.parts s.made).term c
      → axiom_step hs c ≡ Ok x → option_or (first_same s s.pool x.sequent) (first_same s s.assumptions x.sequent) ≡ o → assume_or_meet s x o ≡ Ok t → Holds i t
  met s t hs c x (Some j) g h k a m e = concluded s t (restatement j x.sequent) g.objects (moves.meet s hs c x j g.run h k a m) e
  met s t hs c x None g h k a m e = concluded (record s { assumptions = s.assumptions ++ next_step s ∷ [] }) t x g.objects (moves.assume s hs c x g.run h k a m) e

  axiom-keeps : (s t : State) → Holds i s → axiom_word s ≡ Ok t → Holds i t
  axiom-keeps s t g e =
      let p = i.parts s.made in
      popping p as_term p.term (term-gives p) s.stack g.objects.stacked _ t e (λ c below h under e.
      popping p as_terms (AllByRecursion p.term) (terms-gives p) below under _ t e (λ hs rest k under e.
      binding (axiom_step hs c) _ t e (λ x is e. met (with_stack s rest) t hs c x _ (restacked i s rest g under) k h is refl e)))

  exported : (s t : State) (j : ℕ) (hs : List Term) (c : Term) (x : Step) (o : Option ℕ) → Holds i s → AllByRecursion (i.parts s.made).term hs
      → (i.parts s.made).term c → (i.parts s.made).step j → restate_step s.made j hs c ≡ Ok x → first_same s s.exports x.sequent ≡ o
      → export s x o ≡ Ok t → Holds i t
  exported s t j hs c x (Some earlier) g h k l a m e = answered i s t e g
  exported s t j hs c x None g h k l a m e =
      passing (sequent_in_limits x.sequent) _ t e (λ u limit e.
      answered i _ t e (record {
        objects = older s.made (Made.step x ∷ []) s.stack s.dictionary g.objects;
        run = moves.export s j hs c x g.run h k l a m (sequent_limits x.sequent u limit);
      }))

  thm-keeps : (s t : State) → Holds i s → thm s ≡ Ok t → Holds i t
  thm-keeps s t g e =
      let p = i.parts s.made in
      popping p as_term p.term (term-gives p) s.stack g.objects.stacked _ t e (λ c below h under e.
      popping p as_terms (AllByRecursion p.term) (terms-gives p) below under _ t e (λ hs below k under e.
      popping p as_theorem p.step (theorem-gives p) below under _ t e (λ j rest l under e.
      binding (restate_step s.made j hs c) _ t e (λ x is e. exported (with_stack s rest) t j hs c x _ (restacked i s rest g under) k h l is refl e))))

  -- A word in the body of an article.
  pub obey-keeps : (s t : State) (w : Word) → Holds i s → obey s w ≡ Ok t → Holds i t
  obey-keeps s t word.Version g e = absurd (cc)
  obey-keeps s t word.Nil g e = nil-keeps s t g e
  obey-keeps s t word.Cons g e = cons-keeps s t g e
  obey-keeps s t word.HdTl g e = hd_tl-keeps s t g e
  obey-keeps s t word.TypeOp g e = type_op-keeps s t g e
  obey-keeps s t word.VarType g e = var_type-keeps s t g e
  obey-keeps s t word.OpType g e = op_type-keeps s t g e
  obey-keeps s t word.Const g e = const-keeps s t g e
  obey-keeps s t word.ConstTerm g e = const_term-keeps s t g e
  obey-keeps s t word.Var g e = var-keeps s t g e
  obey-keeps s t word.VarTerm g e = var_term-keeps s t g e
  obey-keeps s t word.AppTerm g e = app_term-keeps s t g e
  obey-keeps s t word.AbsTerm g e = abs_term-keeps s t g e
  obey-keeps s t word.Def g e = def-keeps s t g e
  obey-keeps s t word.Ref g e = ref-keeps s t g e
  obey-keeps s t word.Remove g e = remove-keeps s t g e
  obey-keeps s t word.Pop g e = drop_object-keeps s t g e
  obey-keeps s t word.Pragma g e = drop_object-keeps s t g e
  obey-keeps s t word.Refl g e = of_term s t g refl_step (λ a x h k. by_refl a h k) e
  obey-keeps s t word.Assume g e = of_term s t g assume_step (λ a x h k. by_assume a h k) e
  obey-keeps s t word.EqMp g e = of_theorems s t g (eq_mp_step s.made) (λ k j x g h e. by_eq_mp k j g h e) e
  obey-keeps s t word.AbsThm g e =
      let p = i.parts s.made in
      of_two s t g as_theorem p.step (theorem-gives p) as_variable p.variable (variable-gives p) (λ j v. abs_thm_step s.made v j)
      (λ j v x g h e. by_abs_thm j v g h e) e
  obey-keeps s t word.AppThm g e = of_theorems s t g (app_thm_step s.made) (λ k j x g h e. by_app_thm k j g h e) e
  obey-keeps s t word.DeductAntisym g e = of_theorems s t g (deduct_antisym_step s.made) (λ k j x g h e. by_deduct_antisym k j g h e) e
  obey-keeps s t word.BetaConv g e = of_term s t g beta_conv_step (λ a x h k. by_beta_conv a h k) e
  obey-keeps s t word.Sym g e = of_one s t g as_theorem (i.parts s.made).step (theorem-gives (i.parts s.made)) (sym_step s.made) (λ j x h k. by_sym j h k) e
  obey-keeps s t word.Trans g e = of_theorems s t g (trans_step s.made) (λ k j x g h e. by_trans k j g h e) e
  obey-keeps s t word.ProveHyp g e = of_theorems s t g (prove_hyp_step s.made) (λ k j x g h e. by_prove_hyp k j g h e) e
  obey-keeps s t word.Subst g e =
      let p = i.parts s.made in
      of_two s t g as_theorem p.step (theorem-gives p)
      as_substitution (λ q. AllByRecursion (IsTypePair p) q.0 × AllByRecursion (IsTermPair p) q.1) (substitution-gives p)
      (λ j q. subst_step s.made q.0 q.1 j) (λ j q x g h e. by_subst j q g h e) e
  obey-keeps s t word.DefineConst g e = define_const-keeps s t g e
  obey-keeps s t word.DefineConstList g e = define_const_list-keeps s t g e
  obey-keeps s t word.DefineTypeOp g e = define_type_op-keeps s t g e
  obey-keeps s t word.Axiom g e = axiom-keeps s t g e
  obey-keeps s t word.Thm g e = thm-keeps s t g e
