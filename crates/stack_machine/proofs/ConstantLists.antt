-- The list of the constants of pairs, made from the last on.
use Rattle.std.proofs.Common.{◌≡◌, ℕ, ◌<◌, zero, suc, refl, sym, ap, subst, ◌∙◌, arith, List, [], ◌∷◌, length, map, drop, get_or, Result}
use Rattle.std.specs.Prelude.{slice_get, Some}
use Rattle.std.proofs.Math.Path.{ap₂}
use Rattle.hol_spec.specs.Names.{Name}
use Rattle.common.specs.declared.faults.Fault.{Fault}
use Rattle.common.specs.declared.faults.Kind.{Kind}
use Rattle.hol_spec.specs.DefinitionLists.{ConstantPairs, definitions_in, names_of}
use Rattle.hol_spec.specs.Proofs.{Made, sequent_at}
use Rattle.hol_spec.specs.Symbols.{Symbol}
use Rattle.hol_term.specs.declared.Variable.{Variable}
use Rattle.hol_term.specs.Tables.{Trees, Keeps}
use Rattle.hol_type.specs.TableLaws.{tree_at-Stays}
use Rattle.article_spec.specs.State as state
use Rattle.article_spec.specs.State.{State}
use Rattle.article_spec.specs.DefiningWords.{constant_objects}
use Rattle.article_spec.specs.RuleSteps.{define_const_list_step}
use Rattle.hol_defs.specs.Lists.{pairs_at as constant_pairs_at, ArePairsKnown as AreConstantPairsKnown}
use Rattle.stack_machine.specs.Stored.{Stored, Grows}
use Rattle.stack_machine.specs.Inferring.{Infers}
use Rattle.article_spec.specs.Changes.{defining}
use Rattle.stack_machine.proofs.Defined.{Infers-after}
use Rattle.stack_machine.proofs.Turned.{drop-at}

-- the names of pairs, whatever the table
pub names_of-constant_pairs_at : (trees : Trees) (ps : List (Name × Variable)) → names_of (constant_pairs_at trees ps) ≡ map (λ p. p.0) ps
names_of-constant_pairs_at trees [] = refl
names_of-constant_pairs_at trees (p ∷ ps) = ap (λ ns. p.0 ∷ ns) (names_of-constant_pairs_at trees ps)

-- what is at a place within a list
pub slice_get-within : {A : Type 0} (xs : List A) (i : ℕ) (d : A) → i < length xs → slice_get xs i ≡ Some (get_or xs i d)
slice_get-within [] i d w = absurd (omega (arith, w))
slice_get-within (x ∷ xs) zero d w = refl
slice_get-within (x ∷ xs) (suc i) d w = slice_get-within xs i d (omega (arith, w))

-- the constant before those that are made
pub constants-more : (ps : List (Name × Variable)) (i : ℕ) (p : Name × Variable) (made : state.Objects) → slice_get ps i ≡ Some p → made
    ≡ constant_objects (map (λ q. q.0) (drop (suc i) ps))
    → state.Objects.more (state.Object.constant p.0) made ≡ constant_objects (map (λ q. q.0) (drop i ps))
constants-more ps i p made e h = ap (state.Objects.more (state.Object.constant p.0)) h ∙ sym
    (ap (λ qs. constant_objects (map (λ q. q.0) qs)) (drop-at ps i p e))

-- where none is left, all are made
pub constants-all : (ps : List (Name × Variable)) (n : ℕ) (made : state.Objects) → n ≡ 0 → made ≡ constant_objects (map (λ q. q.0) (drop n ps)) → made
    ≡ constant_objects (map (λ q. q.0) ps)
constants-all [] n made z h = h ∙ ap (λ k. constant_objects (map (λ (q : Name × Variable). q.0) (drop k []))) z
constants-all (p ∷ ps) n made z h = h ∙ ap (λ k. constant_objects (map (λ q. q.0) (drop k (p ∷ ps)))) z

-- pairs over a table that keeps what it had
module _ {a b : Trees} (k : Keeps a b) where
  pub constant_pairs_at-Keeps : (ps : List (Name × Variable)) → AreConstantPairsKnown a ps → constant_pairs_at a ps ≡ constant_pairs_at b ps
  constant_pairs_at-Keeps [] h = refl
  constant_pairs_at-Keeps (p ∷ ps) h = ap₂ (λ t qs. (p.0, (p.1.name, t)) ∷ qs) (tree_at-Stays k.types.stays p.1.ty.0 h.0) (constant_pairs_at-Keeps ps h.1)

  pub AreConstantPairsKnown-Keeps : (ps : List (Name × Variable)) → AreConstantPairsKnown a ps → AreConstantPairsKnown b ps
  AreConstantPairsKnown-Keeps [] h = tt
  AreConstantPairsKnown-Keeps (p ∷ ps) h = (omega (arith, h.0, k.types.longer), AreConstantPairsKnown-Keeps ps h.1)

-- what a list of constants defines, by its pairs and by what was made
abbrev pub list_rule : ConstantPairs → List Made → ℕ → State → Result State Kind
list_rule pairs made one = defining (map Symbol.defined (definitions_in pairs (sequent_at made one).hypotheses)) (define_const_list_step made pairs one)

-- it is the same where more is kept
pub list_rule-after : {a m b : Stored} {r : Result ℕ Fault} (ps : List (Name × Variable)) (one : ℕ) → Grows a m → m.run ≡ a.run
    → AreConstantPairsKnown a.trees ps
    → Infers m (list_rule (constant_pairs_at m.trees ps) m.run.made one) b r → Infers a (list_rule (constant_pairs_at a.trees ps) a.run.made one) b r
list_rule-after {a = a} {m = m} {b = b} {r = r} ps one g e k h =
    let pairs = subst (λ q. Infers m (list_rule q m.run.made one) b r) (sym (constant_pairs_at-Keeps g.trees ps k)) h in
    Infers-after g e (subst (λ made. Infers m (list_rule (constant_pairs_at a.trees ps) made one) b r) (ap (λ run. run.made) e) pairs)
