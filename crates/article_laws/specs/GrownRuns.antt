-- Where nothing is asked of objects but of their names, and each thing that is made has a property of its own, the moves come down to these.
use Rattle.std.proofs.Common.{◌≡◌, ℕ, List, [], ◌∷◌, ◌++◌, map, length, Bool, true, false, cond, Ok, sym, subst}
use Rattle.std.specs.Prelude.{◌||◌, is_some}
use Rattle.std.specs.List.{AllByRecursion, list_any}
use Rattle.std.specs.Ordering.{int_cmp}
use Rattle.std.specs.FinMap.{FinMap}
use Rattle.hol_spec.specs.declared.Version.{Version}
use Rattle.hol_spec.specs.Names.{Name}
use Rattle.hol_spec.specs.Types.{HolType, types_of}
use Rattle.hol_spec.specs.Terms.{Term}
use Rattle.hol_spec.specs.Limits.{TypeWithin, SequentWithin}
use Rattle.hol_spec.specs.Definitions.{Definition, TypeNames}
use Rattle.hol_spec.specs.DefinitionLists.{ConstantPairs, definitions_in}
use Rattle.hol_spec.specs.Symbols.{Symbol, defined, input_constant, input_operator, is_input_operator, is_taken_constant, operator_arity, new_constant, new_operator}
use Rattle.hol_spec.specs.Proofs.{Made, Step, symbols_of, sequent_at}
use Rattle.hol_laws.specs.Members.{All-each}
use Rattle.article_spec.specs.State.{Object, Objects, Stage, State, version_at}
use Rattle.article_spec.specs.State as object
use Rattle.article_spec.specs.Changes.{with_step, with_type_definition, with_type, next_step}
use Rattle.article_spec.specs.RuleSteps.{NewType, define_const_step, type_laws, type_measures, made_of_type, restate_step, restatement}
use Rattle.article_laws.specs.Binds.{IsWithin, sequent-within}
use Rattle.article_laws.specs.Moves.{Invariant, RunHas, ObjectsHave, with_constants, Moves}
use Rattle.article_laws.specs.Parts.{Parts, IsOf, AreOf}
use Rattle.article_laws.specs.SoundDefining.{type_laws-made}

-- objects whose names have a property
abbrev pub names_alone : (Name → Type 0) → Parts
names_alone N = record { name = N; type = λ a. Unit {0}; variable = λ v. Unit {0}; term = λ t. Unit {0}; step = λ i. Unit {0} }

abbrev pub of_names : (Name → Type 0) → (Stage → List Made → List ℕ → List ℕ → Type 0) → Invariant
of_names N run = record { parts = λ made. names_alone N; run = λ place made exports assumptions pool. run place made exports assumptions }

-- any objects have names of which nothing is asked
mutual
  any-object : (x : Object) → IsOf (names_alone (λ n. Unit {0})) x
  any-object (object.number z) = tt
  any-object (object.name n) = tt
  any-object (object.list xs) = any-list xs
  any-object (object.type_operator n) = tt
  any-object (object.type t) = tt
  any-object (object.constant n) = tt
  any-object (object.variable v) = tt
  any-object (object.term t) = tt
  any-object (object.theorem i) = tt

  any-list : (xs : Objects) → AreOf (names_alone (λ n. Unit {0})) xs
  any-list object.none = tt
  any-list (object.more x xs) = (any-object x, any-list xs)

pub any-objects : (stack : List Object) (d : FinMap int_cmp Object) → ObjectsHave (names_alone (λ n. Unit {0})) stack d
any-objects stack d = record { stacked = All-each _ stack (λ x k. any-object x); kept = λ k x e. any-object x }

pub record Grows (N : Name → Type 0) (run : Stage → List Made → List ℕ → List ℕ → Type 0) (Q : Made → Type 0) : Type 0 where
  -- of a run: it grows by things that have the property, by assumptions and by exports
  pub made : (s : State) (ys : List Made) → RunHas (of_names N run) s → AllByRecursion Q ys → RunHas (of_names N run) (record s { made = s.made ++ ys })
  pub assumed : (s : State) (is : List ℕ) → RunHas (of_names N run) s → RunHas (of_names N run) (record s { assumptions = is })
  pub exported : (s : State) (j : ℕ) (hs : List Term) (c : Term) (x : Step) → RunHas (of_names N run) s → restate_step s.made j hs c ≡ Ok x
      → SequentWithin x.sequent → RunHas (of_names N run) (record (with_step s x) { exports = s.exports ++ next_step s ∷ [] })
  -- of what is made: steps, inputs, and what is defined
  pub step : (x : Step) → SequentWithin x.sequent → Q (Made.step x)
  pub operator : (n : Name) (ts : List HolType) → N n → TypeWithin (HolType.operator n (types_of ts)) → Q (Made.symbol (input_operator n (length ts)))
  pub constant : (n : Name) → N n → Q (Made.symbol (input_constant n))
  pub define_const : (m : List Made) (n : Name) (t : Term) (x : Step) → N n → define_const_step m n t ≡ Ok x → SequentWithin x.sequent
      → Q (Made.symbol (defined (Definition.constant n t)))
  pub define_const_list : (s : State) (pairs : ConstantPairs) (j : ℕ) → RunHas (of_names N run) s → AllByRecursion (λ q. N q.0 × Unit {0}) pairs
      → AllByRecursion Q (map Made.symbol (map defined (definitions_in pairs (sequent_at s.made j).hypotheses)))
  pub define_type_op : (edition : Version) (names : TypeNames) (j : ℕ) (c : HolType) (f : Term)
      → N names.operator × N names.abstraction × N names.representation → AllByRecursion IsWithin (type_measures edition names c f)
      → Q (Made.type_definition names c f j)

module _ (N : Name → Type 0) (run : Stage → List Made → List ℕ → List ℕ → Type 0) (Q : Made → Type 0) (grows : Grows N run Q) where
  abbrev Has : State → Type 0
  Has s = RunHas (of_names N run) s

  new_operator-all : (symbols : List Symbol) (n : Name) (k : ℕ) → Q (Made.symbol (input_operator n k))
      → AllByRecursion Q (map Made.symbol (new_operator symbols n k))
  new_operator-all symbols n k h = go (is_some (operator_arity symbols n) || list_any (is_input_operator n k) symbols)
    where
      go : (b : Bool) → AllByRecursion Q (map Made.symbol (cond b [] (input_operator n k ∷ [])))
      go true = tt
      go false = (h, tt {0})

  new_constant-all : (symbols : List Symbol) (n : Name) → Q (Made.symbol (input_constant n)) → AllByRecursion Q (map Made.symbol (new_constant symbols n))
  new_constant-all symbols n h = go (is_taken_constant symbols n)
    where
      go : (b : Bool) → AllByRecursion Q (map Made.symbol (cond b [] (input_constant n ∷ [])))
      go true = tt
      go false = (h, tt {0})

  stepped : (s : State) (x : Step) → Has s → SequentWithin x.sequent → Has (with_step s x)
  stepped s x g l = grows.made s (Made.step x ∷ []) g (grows.step x l, tt {0})

  type_op-grows : (s : State) (names : TypeNames) (j : ℕ) (x : NewType) → Has s → N names.operator × N names.abstraction × N names.representation
      → type_laws (version_at s.place) s.made names j ≡ Ok x → Has (with_type s x)
  type_op-grows s names j x g h e =
      let edition = version_at s.place in
      let y = type_laws-made edition s.made names j x e in
      let z = made_of_type edition names j y.c y.f in
      let u = with_type_definition s names y.c y.f j in
      let own = grows.made s (z.definition ∷ []) g (grows.define_type_op edition names j y.c y.f h y.within, tt {0}) in
      let one = stepped u z.first own (sequent-within z.first.sequent y.within.1.1.1.0) in
      subst (λ w. Has (with_type s w)) (sym y.is) (stepped (with_step u z.first) z.second one (sequent-within z.second.sequent y.within.1.1.1.1.0))

  pub moves_of : Moves (of_names N run)
  moves_of = record {
    more = λ m ys x h. h;
    new_step = λ m x. tt {0};
    type_variable = λ m n h. tt {0};
    variable = λ m v h k. tt {0};
    free = λ m v h l. tt {0};
    app = λ m f x h k e l. tt {0};
    abstracted = λ m v t h k l. tt {0};
    operator = λ s n ts u g h k e l. (grows.made s _ g (new_operator-all (symbols_of s.made) n (length ts) (grows.operator n ts h l)), tt {0});
    constant = λ s n a u g h k e l. (grows.made s _ g (new_constant-all (symbols_of s.made) n (grows.constant n h)), tt {0});
    rule = λ s x g h l. stepped s x g l;
    define_const = λ s n t x g h k e l.
        let ds = Definition.constant n t ∷ [] in
        stepped (with_constants s ds) x (grows.made s (map Made.symbol (map defined ds)) g (grows.define_const s.made n t x h e l, tt {0})) l;
    define_const_list = λ s pairs j x g h k e l.
        let ds = definitions_in pairs (sequent_at s.made j).hypotheses in
        stepped (with_constants s ds) x (grows.made s (map Made.symbol (map defined ds)) g (grows.define_const_list s pairs j g h)) l;
    define_type_op = λ s names j x g h w k e. type_op-grows s names j x g h e;
    meet = λ s hs c x j g h k e m l. stepped s (restatement j x.sequent) g l;
    assume = λ s hs c x g h k e m l. grows.assumed (with_step s x) _ (stepped s x g l);
    export = λ s j hs c x g h k n e m l. grows.exported s j hs c x g e l;
  }
