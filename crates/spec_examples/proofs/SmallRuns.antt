-- What the worked modules share: what their runs make and why each follows from what was made before it, forms of terms and trees, and
-- the lines of a module.
use Rattle.std.proofs.Common.{◌≡◌, ℕ, List, [], ◌∷◌, ◌++◌, map, drop, Some, slice_get, refl, codes}
use Rattle.std.specs.Prelude.{IsTrue}
use Rattle.std.specs.List.{IsDistinct}
use Rattle.hol_spec.specs.Names.{Name}
use Rattle.hol_spec.specs.Types.{HolType}
use Rattle.hol_spec.specs.Primitives.{bool, function}
use Rattle.hol_spec.specs.Terms.{Term, HasType}
use Rattle.hol_spec.specs.Sequents.{Sequent, IsSequent, within}
use Rattle.hol_spec.specs.Symbols.{Symbol}
use Rattle.hol_spec.specs.Rules.{Rule, Parameters, derived}
use Rattle.hol_spec.specs.Proofs.{Made, sequents_of, IsMade, Each, IsProof, Accepted}
use Rattle.hol_spec.specs.declared.StepKind.{StepKind}
use Rattle.hol_spec.specs.declared.StepKind.TheVariants.{Axiom, Restate}
use Rattle.lp_spec.specs.declared.form.Form.TheVariants.{Thm, Def}
use Rattle.lp_spec.specs.Trees.{Tree}
use Rattle.lp_spec.specs.Modules.{Declaration, bools, term_of}
use Rattle.lp_spec.specs.Text.{tree_text, body_text}
use Rattle.translate_spec.specs.Image.{image}

-- names of one component, and variables of the truth values
abbrev pub name : List ℕ → Name
name text = text ∷ []

abbrev pub boolean : List ℕ → Term
boolean text = Term.free (name text) bool

abbrev pub p : Term
p = boolean (codes "p")

abbrev pub q : Term
q = boolean (codes "q")

abbrev pub r : Term
r = boolean (codes "r")

abbrev pub truths : HolType
truths = function bool bool

-- the identity of the truth values, and its tree
abbrev pub I : Term
I = Term.lam bool (Term.bound 0)

-- `term bool`
abbrev pub TB : Tree
TB = term_of bools

-- what a run makes: an input constant, an assumption, a step by a rule, and an export of a step
abbrev pub takes : Name → Made
takes n = Made.symbol (Symbol.input_constant n)

abbrev pub infers : StepKind → List ℕ → Parameters → Sequent → Made
infers kind premises parameters s = Made.step (record { kind = kind; premises = premises; parameters = parameters; sequent = s })

abbrev pub assumes : Sequent → Made
assumes s = infers Axiom [] (Parameters.sequent s) s

abbrev pub exports : ℕ → Sequent → Made
exports i s = infers Restate (i ∷ []) (Parameters.sequent s) s

-- declarations with a body
abbrev pub theorem : List ℕ → Tree → Tree → Declaration
theorem n ty body = record { name = n; form = Thm; ty = ty; body = Some body }

abbrev pub definition : List ℕ → Tree → Tree → Declaration
definition n ty body = record { name = n; form = Def; ty = ty; body = Some body }

-- the lines of a module after its two lemmas, without what stands before a name and the end
abbrev pub line : List Declaration → Declaration → List ℕ
line m d = d.name ++ codes " : " ++ tree_text m 0 d.ty ++ body_text m d.body

abbrev pub own_lines : Accepted → List (List ℕ)
own_lines run = map (line (image run)) (drop 2 (image run))

-- why what is made follows
pub next : {before : List Made} (x : Made) → IsProof before → IsMade before x → IsProof (before ++ x ∷ [])
next x before is = Each.more x before is refl

pub assumed : (before : List Made) (s : Sequent) → IsSequent s → IsMade before (assumes s)
assumed before s is = record { premises = []; earlier = tt; follows = record { rule = Rule.recorded is; defined = tt }; law = tt {0} }

pub exported : (before : List Made) (i : ℕ) (s : Sequent) → slice_get (sequents_of before) i ≡ Some s → IsSequent s → IsTrue (within s s)
    → IsMade before (exports i s)
exported before i s at is same = record
    { premises = s ∷ []; earlier = (at, tt {0}); follows = record { rule = Rule.restate is same; defined = tt }; law = tt {0} }

pub alone : (t : Term) → HasType t bool → IsSequent (derived [] t)
unfolding IsDistinct
alone t typed = record { no_repeats = tt; hypotheses = tt; conclusion = typed }
