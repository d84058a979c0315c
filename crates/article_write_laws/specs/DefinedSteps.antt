-- Definitions told in the article.
use Rattle.std.proofs.Common.{◌≡◌, ℕ, suc, ◌+◌, ◌<◌, ◌==◌, Bool, true, false, ◌||◌, cond, List, [], ◌∷◌, ◌++◌, map, length, Ok, refl, sym, ap, ap₂, subst, ◌∙◌, arith, append_assoc, length-append, IsTrue}
use Rattle.std.specs.List.{AllByRecursion, list_any, flat_map}
use Rattle.std.proofs.lemmas.Bool.{or_parts}
use Rattle.std.proofs.lemmas.Bool.Decides.{nat_tests}
use Rattle.hol_spec.specs.declared.Version.{Version}
use Rattle.hol_spec.specs.Names.{Name}
use Rattle.hol_spec.specs.Types.{HolType}
use Rattle.hol_spec.specs.Terms.{Term, equation}
use Rattle.hol_spec.specs.TermSubstitution.{sub}
use Rattle.hol_spec.specs.Sequents.{Sequent}
use Rattle.hol_spec.specs.Definitions.{Definition, TypeNames}
use Rattle.hol_spec.specs.DefinitionLists.{ConstantPairs, names_of, defining_equations, definitions_in, constants_put, is_definition_list}
use Rattle.hol_spec.specs.TypeDefinitions.{IsTypeDefinition, first_law_of, second_law_of}
use Rattle.hol_spec.specs.Symbols.{Symbol, defined, is_taken_constant}
use Rattle.hol_spec.specs.Taking.{Takes, AreNew}
use Rattle.hol_spec.specs.Limits.{SequentWithin}
use Rattle.hol_spec.specs.Rules.{Parameters, derived, IsDefining}
use Rattle.hol_spec.specs.Rules as rule
use Rattle.hol_spec.specs.Proofs.{Made, Step, symbols_of, steps_of, sequent_at}
use Rattle.hol_spec.specs.declared.StepKind.TheVariants as by_rule
use Rattle.hol_proof_laws.specs.ProofLaws.{steps_of-push, steps_of-symbols, symbols_of-push, symbols_of-symbols}
use Rattle.article_spec.specs.declared.commands.Item.TheVariants as item
use Rattle.article_spec.specs.declared.commands.Word.TheVariants as word
use Rattle.article_spec.specs.State.{Object}
use Rattle.article_spec.specs.Changes.{with_theorem}
use Rattle.article_spec.specs.DefiningWords.{define_const_list, constant_objects}
use Rattle.article_spec.specs.RuleSteps.{step_by}
use Rattle.article_write_spec.specs.Drafts.{Kept, write_each}
use Rattle.article_write_spec.specs.WrittenSteps.{write_premise, write_given}
use Rattle.article_write_laws.specs.SymbolUses.{AreAmong, nil-append}
use Rattle.article_write_laws.specs.SymbolsGrown.{AreApart, among-taken, apart-taken, not-among, not-among-operator}
use Rattle.article_write_laws.specs.Scenes.{body_state, Ready, ready-popped, wrote-then}
use Rattle.article_write_laws.specs.GivenWriting.{IsKept, kept-more, given_stack, given-writes, premises-write}
use Rattle.article_write_laws.specs.BuiltSteps.{operand, given-operands}
use Rattle.article_write_laws.specs.DefiningSteps.{define_const-word, define_const_list-word, define_type_op-word}
use Rattle.article_write_laws.specs.Flags.{count, renumbered_steps}
use Rattle.article_write_laws.specs.DefinitionsMade.{steps_of-definition, law-grown, law-symbols}
use Rattle.article_write_laws.specs.Tales.{next, IsConstant, AreConstants, IsType, TakesAll}
use Rattle.article_write_laws.specs.Retelling.{Retold, scene, told, write_flagged, retold-on, count-after, kept-last, ready-moved, next-grown, told-on, steps-on, rise, rise-exported, defined_by, told_definitions, told-grown, told-operator, defined-after, defs-told}
use Rattle.article_write_laws.specs.ToldSteps.{steps-inputs, says, all-kept, ready-theorem}
use Rattle.article_write_laws.specs.StatedSteps.{ready-changed}

-- a constant that is defined was not taken
constant-untaken : (symbols : List Symbol) (n : Name) (t : Term) → Takes symbols (defined (Definition.constant n t)) → is_taken_constant symbols n ≡ false
constant-untaken symbols n t (Takes.constant e h) = e

none-among : (all some : List Symbol) (ns : List Name) → AreAmong all some → list_any (is_taken_constant all) ns ≡ false
    → list_any (is_taken_constant some) ns ≡ false
none-among all some [] among e = refl
none-among all some (n ∷ ns) among e =
    let k = or_parts (is_taken_constant all n) (list_any (is_taken_constant all) ns) e in
    ap₂ (λ a b. a || b) (not-among all some n among k.0) (none-among all some ns among k.1)

names-among : (all some : List Symbol) (names : TypeNames) → AreAmong all some → AreNew all names → AreNew some names
names-among all some names among h = record {
  operator = not-among-operator all some names.operator among h.operator;
  abstraction = not-among all some names.abstraction among h.abstraction;
  representation = not-among all some names.representation among h.representation;
  apart = h.apart;
}

data Three (n j : ℕ) : Type 0 where
  before : j < n → Three n j
  at : j ≡ n → Three n j
  behind : j ≡ suc n → Three n j

one-of-three : (n j : ℕ) → j < suc (suc n) → Three n j
one-of-three n j low = go (j == n) (j == suc n) refl refl
  where
    go : (b c : Bool) → (j == n) ≡ b → (j == suc n) ≡ c → Three n j
    go true c e f = Three.at (grind (arith, nat_tests, e))
    go false true e f = Three.behind (grind (arith, nat_tests, f))
    go false false e f = Three.before (grind (arith, nat_tests, e, f, low))

module _ (q : ℕ) (version : Version) (flag is_export : ℕ → Bool) where
  among-all : (all some new : List Symbol) → TakesAll q version flag is_export all new → AreAmong all some → AreAmong (all ++ new) (some ++ new)
  among-all all some [] h among = subst (λ l. AreAmong l (some ++ [])) (sym (nil-append all)) (subst (AreAmong all) (sym (nil-append some)) among)
  among-all all some (x ∷ new) h among =
      subst (λ l. AreAmong l (some ++ x ∷ new)) (append_assoc all (x ∷ []) new) (subst (AreAmong ((all ++ x ∷ []) ++ new)) (append_assoc some (x ∷ []) new)
      (among-all (all ++ x ∷ []) (some ++ x ∷ []) new h.1 (among-taken all some x h.0 among)))

  pub apart-all : (all new : List Symbol) → TakesAll q version flag is_export all new → AreApart all → AreApart (all ++ new)
  apart-all all [] h apart = subst AreApart (sym (nil-append all)) apart
  apart-all all (x ∷ new) h apart = subst AreApart (append_assoc all (x ∷ []) new) (apart-all (all ++ x ∷ []) new h.1 (apart-taken all x apart h.0))

  -- the symbols and the steps of a definition
  pub symbols-grown : (made whole : List Made) (new : List Symbol) (x : Step) → whole ≡ (made ++ map Made.symbol new) ++ Made.step x ∷ []
      → symbols_of whole ≡ symbols_of made ++ new
  symbols-grown made whole new x is = ap symbols_of is ∙ symbols_of-push (made ++ map Made.symbol new) x ∙ symbols_of-symbols made new

  pub steps-grown : (made whole : List Made) (new : List Symbol) (x : Step) → whole ≡ (made ++ map Made.symbol new) ++ Made.step x ∷ []
      → steps_of whole ≡ steps_of made ++ x ∷ []
  steps-grown made whole new x is = ap steps_of is ∙ steps_of-push (made ++ map Made.symbol new) x ∙ ap (λ l. l ++ x ∷ []) (steps_of-symbols made new)

  pub constant-on : {made whole : List Made} {ax ex : List ℕ} (nm : Name) (t : Term) (a : HolType) (r : Retold q version flag is_export made ax ex)
      → flag (next made) ≡ true
      → Takes (symbols_of made) (defined (Definition.constant nm t)) → IsConstant q version flag is_export made nm t a
      → whole ≡ (made ++ Made.symbol (defined (Definition.constant nm t)) ∷ [])
      ++ Made.step (step_by by_rule.DefineConst [] (Parameters.constant nm t) (derived [] (equation a (Term.constant nm a) t))) ∷ []
      → Retold q version flag is_export whole ax ex
  constant-on {made = made} {whole = whole} {ax = ax} {ex = ex} nm t a r on takes h is =
      let n = next made in
      let new = defined (Definition.constant nm t) in
      let x = step_by by_rule.DefineConst [] (Parameters.constant nm t) (derived [] (equation a (Term.constant nm a) t)) in
      let c = scene q version flag is_export made ax ex in
      let d = told q version flag is_export made in
      let g = given-writes c q (Parameters.constant nm t) (operand c r.apart q t h.built h.fresh h.taken) d r.after [] r.ready in
      let d1 = write_given q (Parameters.constant nm t) d in
      let m = r.after ++ map Made.symbol g.more in
      let m1 = m ++ Made.symbol new ∷ [] in
      let steps : steps_of m1 ≡ steps_of r.after = steps_of-symbols m (new ∷ []) ∙ steps_of-symbols r.after g.more in
      let number : count flag n ≡ length (steps_of m1) = sym (ap length steps ∙ count-after q version flag is_export r) in
      let symbols : symbols_of whole ≡ symbols_of made ++ new ∷ [] = symbols-grown made whole (new ∷ []) x is in
      let own_symbols : symbols_of (m1 ++ Made.step x ∷ []) ≡ symbols_of m ++ new ∷ [] = symbols_of-push m1 x ∙ symbols_of-symbols m (new ∷ []) in
      let among = subst (AreAmong (symbols_of made ++ new ∷ [])) (sym own_symbols) (among-taken (symbols_of made) (symbols_of m) new takes g.ready.among) in
      let untaken = not-among (symbols_of made) (symbols_of m) nm g.ready.among (constant-untaken (symbols_of made) nm t takes) in
      let defines = ready-changed {after = m1 ++ Made.step x ∷ []} {over = Object.theorem (length (steps_of m1)) ∷ Object.constant nm ∷ []} g.ready
      (item.Word word.DefineConst) (symbols_of made ++ new ∷ []) c.assumptions c.exports
      (define_const-word c g.ready.dictionary m [] nm t a untaken h.defining h.limits) among in
      let done = ready-popped (Object.constant nm) (ready-theorem q version flag is_export n (length (steps_of m1)) number defines) in
      let grown = steps-grown made whole (new ∷ []) x is in
      let longer = next-grown q version flag is_export made whole x grown in
      retold-on q version flag is_export x r grown on (m1 ++ Made.step x ∷ [])
      (ready-moved q version flag is_export done (subst (λ l. AreAmong l (symbols_of (m1 ++ Made.step x ∷ []))) (sym symbols) among) refl refl)
      (steps_of-push m1 x ∙ ap (λ l. l ++ x ∷ []) steps)
      (g.new ++ Kept.theorem n ∷ [])
      (ap (λ l. l ++ Kept.theorem n ∷ []) g.front ∙ append_assoc d.kept g.new (Kept.theorem n ∷ []))
      (λ e. kept-last d1.kept n)
      (subst AreApart (sym symbols) (apart-taken (symbols_of made) new r.apart takes))
      (rise q version flag is_export n (next whole) (omega (arith, longer)) ax r.assumptions)
      (rise-exported q version flag is_export n (next whole) (omega (arith, longer)) ex r.exports)
      (defs-told q version flag is_export r whole (m1 ++ Made.step x ∷ []) g.more (new ∷ []) x on g.inputs
      (own_symbols ∙ ap (λ l. l ++ new ∷ []) (symbols_of-symbols r.after g.more)) is)

  pub constants-on : {made whole : List Made} {ax ex : List ℕ} (i : ℕ) (pairs : ConstantPairs) (r : Retold q version flag is_export made ax ex)
      → flag (next made) ≡ true
      → TakesAll q version flag is_export (symbols_of made) (map defined (definitions_in pairs (sequent_at made i).hypotheses))
      → AreConstants q version flag is_export made i pairs
      → whole ≡ (made ++ map Made.symbol (map defined (definitions_in pairs (sequent_at made i).hypotheses)))
      ++ Made.step (step_by by_rule.DefineConstList (i ∷ []) (rule.constants pairs) (derived [] (sub [] (constants_put pairs) (sequent_at made i).conclusion)))
      ∷ [] → Retold q version flag is_export whole ax ex
  constants-on {made = made} {whole = whole} {ax = ax} {ex = ex} i pairs r on takes h is =
      let n = next made in
      let one = sequent_at made i in
      let new = map defined (definitions_in pairs one.hypotheses) in
      let s = derived [] (sub [] (constants_put pairs) one.conclusion) in
      let x = step_by by_rule.DefineConstList (i ∷ []) (rule.constants pairs) s in
      let y = step_by by_rule.DefineConstList (count flag i ∷ []) (rule.constants pairs) s in
      let c = scene q version flag is_export made ax ex in
      let d = told q version flag is_export made in
      let g = given-writes c q (Parameters.constants pairs) (given-operands c r.apart q (Parameters.constants pairs) h.given.built h.given.fresh h.given.taken)
      d r.after [] r.ready in
      let d1 = write_given q (Parameters.constants pairs) d in
      let p = wrote-then g
      (λ m z. premises-write c (i ∷ []) d1 m (given_stack (Parameters.constants pairs) [])
      (all-kept q version flag is_export r d1.kept g.new g.front (i ∷ []) (h.premise, tt {0})) z) in
      let d2 = write_each write_premise (i ∷ []) d1 in
      let m = r.after ++ map Made.symbol p.more in
      let m1 = m ++ map Made.symbol new in
      let same : sequent_at m (count flag i) ≡ one =
      steps-inputs r.after p.more (count flag i) ∙ says q version flag is_export r i h.premise.earlier h.premise.flagged in
      let steps : steps_of m1 ≡ steps_of r.after = steps_of-symbols m new ∙ steps_of-symbols r.after p.more in
      let number : count flag n ≡ length (steps_of m1) = sym (ap length steps ∙ count-after q version flag is_export r) in
      let symbols : symbols_of whole ≡ symbols_of made ++ new = symbols-grown made whole new x is in
      let own_symbols : symbols_of (m1 ++ Made.step y ∷ []) ≡ symbols_of m ++ new = symbols_of-push m1 y ∙ symbols_of-symbols m new in
      let among = subst (AreAmong (symbols_of made ++ new)) (sym own_symbols) (among-all (symbols_of made) (symbols_of m) new takes p.ready.among) in
      let untaken = none-among (symbols_of made) (symbols_of m) (names_of pairs) p.ready.among h.new in
      let conclusion : (z : Sequent) → sequent_at m (count flag i) ≡ z → AllByRecursion (λ e. IsDefining e.0.1 e.1) (defining_equations pairs z.hypotheses)
      → IsTrue (is_definition_list pairs z)
      → SequentWithin (derived [] (sub [] (constants_put pairs) z.conclusion))
      → define_const_list (body_state c p.ready.dictionary m (Object.theorem (count flag i) ∷ given_stack (Parameters.constants pairs) []))
      ≡ Ok (with_theorem
      (body_state c p.ready.dictionary (m ++ map Made.symbol (map defined (definitions_in pairs z.hypotheses)))
      (Object.list (constant_objects (names_of pairs)) ∷ []))
      (step_by by_rule.DefineConstList (count flag i ∷ []) (rule.constants pairs) (derived [] (sub [] (constants_put pairs) z.conclusion)))) =
      λ z e. subst (λ z. AllByRecursion (λ e. IsDefining e.0.1 e.1) (defining_equations pairs z.hypotheses) → IsTrue (is_definition_list pairs z)
      → SequentWithin (derived [] (sub [] (constants_put pairs) z.conclusion))
      → define_const_list (body_state c p.ready.dictionary m (Object.theorem (count flag i) ∷ given_stack (Parameters.constants pairs) []))
      ≡ Ok (with_theorem
      (body_state c p.ready.dictionary (m ++ map Made.symbol (map defined (definitions_in pairs z.hypotheses)))
      (Object.list (constant_objects (names_of pairs)) ∷ []))
      (step_by by_rule.DefineConstList (count flag i ∷ []) (rule.constants pairs) (derived [] (sub [] (constants_put pairs) z.conclusion))))) e
      (define_const_list-word c p.ready.dictionary m [] (count flag i) pairs untaken) in
      let defines = ready-changed {after = m1 ++ Made.step y ∷ []}
      {over = Object.theorem (length (steps_of m1)) ∷ Object.list (constant_objects (names_of pairs)) ∷ []} p.ready (item.Word word.DefineConstList)
      (symbols_of made ++ new) c.assumptions c.exports
      (conclusion one same h.defining h.is_list h.limits) among in
      let done = ready-popped (Object.list (constant_objects (names_of pairs))) (ready-theorem q version flag is_export n (length (steps_of m1)) number defines)
      in
      let grown = steps-grown made whole new x is in
      let longer = next-grown q version flag is_export made whole x grown in
      retold-on q version flag is_export x r grown on (m1 ++ Made.step y ∷ [])
      (ready-moved q version flag is_export done (subst (λ l. AreAmong l (symbols_of (m1 ++ Made.step y ∷ []))) (sym symbols) among) refl refl)
      (steps_of-push m1 y ∙ ap (λ l. l ++ y ∷ []) steps)
      (p.new ++ Kept.theorem n ∷ [])
      (ap (λ l. l ++ Kept.theorem n ∷ []) p.front ∙ append_assoc d.kept p.new (Kept.theorem n ∷ []))
      (λ e. kept-last d2.kept n)
      (subst AreApart (sym symbols) (apart-all (symbols_of made) new takes r.apart))
      (rise q version flag is_export n (next whole) (omega (arith, longer)) ax r.assumptions)
      (rise-exported q version flag is_export n (next whole) (omega (arith, longer)) ex r.exports)
      (defs-told q version flag is_export r whole (m1 ++ Made.step y ∷ []) p.more new x on p.inputs
      (own_symbols ∙ ap (λ l. l ++ new) (symbols_of-symbols r.after p.more)) is)

  -- A type operator: two steps at once
  pub type-on : {made whole : List Made} {ax ex : List ℕ} (i : ℕ) (names : TypeNames) (a : HolType) (f : Term) (r : Retold q version flag is_export made ax ex)
      → flag (next made) ≡ true → flag (suc (next made)) ≡ true
      → Takes (symbols_of made) (defined (Definition.type_operator names a f)) → IsType q version flag is_export made i names a f version
      → whole ≡ ((made ++ Made.type_definition names a f i ∷ [])
      ++ Made.step (step_by by_rule.FirstLaw (i ∷ []) (rule.type_operator names version) (first_law_of version names a)) ∷ [])
      ++ Made.step (step_by by_rule.SecondLaw (i ∷ []) (rule.type_operator names version) (second_law_of version names a f)) ∷ []
      → Retold q version flag is_export whole ax ex
  type-on {made = made} {whole = whole} {ax = ax} {ex = ex} i names a f r on both takes h is =
      let n = next made in
      let new = defined (Definition.type_operator names a f) in
      let x1 = step_by by_rule.FirstLaw (i ∷ []) (rule.type_operator names version) (first_law_of version names a) in
      let x2 = step_by by_rule.SecondLaw (i ∷ []) (rule.type_operator names version) (second_law_of version names a f) in
      let y1 = step_by by_rule.FirstLaw (count flag i ∷ []) (rule.type_operator names version) (first_law_of version names a) in
      let y2 = step_by by_rule.SecondLaw (count flag i ∷ []) (rule.type_operator names version) (second_law_of version names a f) in
      let mid = (made ++ Made.type_definition names a f i ∷ []) ++ Made.step x1 ∷ [] in
      let c = scene q version flag is_export made ax ex in
      let d = told q version flag is_export made in
      let g = given-writes c q (Parameters.type_operator names version) (tt {0}) d r.after [] r.ready in
      let d1 = write_given q (Parameters.type_operator names version) d in
      let p = wrote-then g
      (λ m z. premises-write c (i ∷ []) d1 m (given_stack (Parameters.type_operator names version) [])
      (all-kept q version flag is_export r d1.kept g.new g.front (i ∷ []) (h.premise, tt {0})) z) in
      let d2 = write_each write_premise (i ∷ []) d1 in
      let m = r.after ++ map Made.symbol p.more in
      let m1 = m ++ Made.type_definition names a f (count flag i) ∷ [] in
      let m2 = m1 ++ Made.step y1 ∷ [] in
      let m3 = m2 ++ Made.step y2 ∷ [] in
      let same : sequent_at m (count flag i) ≡ sequent_at made i =
      steps-inputs r.after p.more (count flag i) ∙ says q version flag is_export r i h.premise.earlier h.premise.flagged in
      let steps1 : steps_of m1 ≡ steps_of r.after = steps_of-definition m names a f (count flag i) ∙ steps_of-symbols r.after p.more in
      let steps2 : steps_of m2 ≡ steps_of r.after ++ y1 ∷ [] = steps_of-push m1 y1 ∙ ap (λ l. l ++ y1 ∷ []) steps1 in
      let steps3 : steps_of m3 ≡ (steps_of r.after ++ y1 ∷ []) ++ y2 ∷ [] = steps_of-push m2 y2 ∙ ap (λ l. l ++ y2 ∷ []) steps2 in
      let number1 : count flag n ≡ length (steps_of m1) = sym (ap length steps1 ∙ count-after q version flag is_export r) in
      let count2 : count flag (suc n) ≡ suc (count flag n) = ap (λ b. cond b (suc (count flag n)) (count flag n)) on in
      let long2 : length (steps_of m2) ≡ length (steps_of r.after) + 1 = ap length steps2 ∙ length-append (steps_of r.after) (y1 ∷ []) in
      let number2 : count flag (suc n) ≡ length (steps_of m2) = omega (arith, count2, long2, count-after q version flag is_export r) in
      let symbols : symbols_of whole ≡ symbols_of made ++ new ∷ [] = ap symbols_of is ∙ symbols_of-push mid x2 ∙ law-symbols made names a f i x1 in
      let own_symbols : symbols_of m3 ≡ symbols_of m ++ new ∷ [] = symbols_of-push m2 y2 ∙ law-symbols m names a f (count flag i) y1 in
      let among = subst (AreAmong (symbols_of made ++ new ∷ [])) (sym own_symbols) (among-taken (symbols_of made) (symbols_of m) new takes p.ready.among) in
      let untaken = names-among (symbols_of made) (symbols_of m) names p.ready.among h.new in
      let definition = subst (IsTypeDefinition names a f) (sym same) h.definition in
      let defines = ready-changed {after = m3} {over =
      Object.theorem (length (steps_of m2)) ∷ Object.theorem (length (steps_of m1)) ∷ Object.constant names.representation ∷ Object.constant
      names.abstraction ∷ Object.type_operator names.operator ∷ []}
      p.ready (item.Word word.DefineTypeOp) (symbols_of made ++ new ∷ []) c.assumptions c.exports
      (define_type_op-word c p.ready.dictionary m [] (count flag i) names a f untaken definition h.first h.second) among in
      let second = ready-theorem q version flag is_export (suc n) (length (steps_of m2)) number2 defines in
      let first = ready-theorem q version flag is_export n (length (steps_of m1)) number1 second in
      let done = ready-popped (Object.type_operator names.operator)
      (ready-popped (Object.constant names.abstraction) (ready-popped (Object.constant names.representation) first)) in
      let grown1 : steps_of mid ≡ steps_of made ++ x1 ∷ [] = law-grown made names a f i x1 in
      let grown2 : steps_of whole ≡ steps_of mid ++ x2 ∷ [] = ap steps_of is ∙ steps_of-push mid x2 in
      let next1 : next mid ≡ suc n = next-grown q version flag is_export made mid x1 grown1 ∙ (let e : n + 1 ≡ suc n = omega arith in e) in
      let next2 : next whole ≡ suc (suc n) = next-grown q version flag is_export mid whole x2 grown2
      ∙ (let e : next mid + 1 ≡ suc (suc n) = omega (arith, next1) in e) in
      let both1 : flag (next mid) ≡ true = ap flag next1 ∙ both in
      let d3 = write_flagged q version flag is_export (record { number = n; step = x1 }) d in
      let draft : told q version flag is_export whole ≡ d3 =
      told-on q version flag is_export mid whole x2 grown2 both1 ∙ told-on q version flag is_export made mid x1 grown1 on in
      let front : d3.kept ≡ d.kept ++ (p.new ++ Kept.theorem (suc n) ∷ Kept.theorem n ∷ []) =
      ap (λ l. (l ++ Kept.theorem (suc n) ∷ []) ++ Kept.theorem n ∷ []) p.front
      ∙ append_assoc (d.kept ++ p.new) (Kept.theorem (suc n) ∷ []) (Kept.theorem n ∷ [])
      ∙ append_assoc d.kept p.new (Kept.theorem (suc n) ∷ Kept.theorem n ∷ []) in
      let all_steps : steps_of m3 ≡ renumbered_steps flag (steps_of whole) =
      steps3 ∙ ap (λ l. (l ++ y1 ∷ []) ++ y2 ∷ []) r.steps
      ∙ sym (steps-on q version flag is_export mid whole x2 grown2 both1 ∙ ap (λ l. l ++ y2 ∷ []) (steps-on q version flag is_export made mid x1 grown1 on))
      in
      record {
        after = m3;
        ready = subst (λ z. Ready (scene q version flag is_export whole ax ex) z m3 []) (sym draft)
            (ready-moved q version flag is_export done (subst (λ l. AreAmong l (symbols_of m3)) (sym symbols) among) refl refl);
        steps = all_steps;
        definitions = defined-after flag r.after m3 p.more (new ∷ []) p.inputs (own_symbols ∙ ap (λ l. l ++ new ∷ []) (symbols_of-symbols r.after p.more)) ∙ ap
            (λ l. l ++ flat_map defined_by (new ∷ [])) r.definitions
            ∙ sym (told-grown flag true mid whole [] x2 both1 (is ∙ ap (λ l. l ++ Made.step x2 ∷ []) (sym (nil-append mid)))
            ∙ nil-append (told_definitions flag 0 mid) ∙ told-operator flag true made names a f i x1 on);
        kept = λ j low k no_export. subst (λ z. IsKept z.kept j) (sym draft) (elim (one-of-three n j (omega (arith, low, next2))) [
          | Three.before old ↦ subst (λ l. IsKept l j) (sym front)
              (kept-more d.kept (p.new ++ Kept.theorem (suc n) ∷ Kept.theorem n ∷ []) j (r.kept j old k no_export))
          | Three.at e ↦ subst (λ z. IsKept d3.kept z) (sym e) (kept-last (d2.kept ++ Kept.theorem (suc n) ∷ []) n)
          | Three.behind e ↦ subst (λ z. IsKept d3.kept z) (sym e)
              (kept-more (d2.kept ++ Kept.theorem (suc n) ∷ []) (Kept.theorem n ∷ []) (suc n) (kept-last d2.kept (suc n)))
        ]);
        apart = subst AreApart (sym symbols) (apart-taken (symbols_of made) new r.apart takes);
        assumptions = rise q version flag is_export n (next whole) (omega (arith, next2)) ax r.assumptions;
        exports = rise-exported q version flag is_export n (next whole) (omega (arith, next2)) ex r.exports;
      }
