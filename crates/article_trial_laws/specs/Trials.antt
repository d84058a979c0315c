-- What the generated article of n blocks exports, and that the machine accepts it.
use Rattle.std.specs.Prelude.{ℕ, zero, suc, ◌≡◌, ◌<◌, ◌≤◌, List, [], ◌∷◌, ◌++◌, length, Some, slice_get, codes, decimal}
use Rattle.hol_spec.specs.Names.{Name}
use Rattle.hol_spec.specs.Mangling.{AreBytes}
use Rattle.hol_spec.specs.Types.{HolType}
use Rattle.hol_spec.specs.Primitives.{bool, function}
use Rattle.hol_spec.specs.Terms.{Term, app, lam, bound, equation}
use Rattle.hol_spec.specs.Sequents.{Sequent}
use Rattle.hol_spec.specs.Definitions.{Definition}
use Rattle.hol_spec.specs.Symbols.{Symbol, input_constant, defined}
use Rattle.hol_spec.specs.Rules.{derived}
use Rattle.hol_spec.specs.Proofs.{Accepted, sequents_of, symbols_of}
use Rattle.article_spec.specs.Lines.{max_article}
use Rattle.article_spec.specs.Run.{Run, accepted}
use Rattle.article_spec.specs.Trial.{trial_text}

-- the name of the input
abbrev pub f : Name
f = codes "f" ∷ []

-- the name of the constant of block i; before the first block stands f
abbrev pub constant_name : ℕ → Name
constant_name zero = f
constant_name (suc i) = (codes "c" ++ decimal (suc i)) ∷ []

-- the type bool -> bool
abbrev pub truths : HolType
truths = function bool bool

abbrev pub p : Term
p = Term.free (codes "p" ∷ []) bool

-- a constant of this name at p
abbrev pub at_p : Name → Term
at_p n = app (Term.constant n truths) p

-- |- c p = f p, for the constant c of block i
abbrev pub theorem_of : ℕ → Sequent
theorem_of i = derived [] (equation bool (at_p (constant_name i)) (at_p f))

-- \x. n x
abbrev pub wrapped : Name → Term
wrapped n = lam bool (app (Term.constant n truths) (bound 0))

-- what block i + 1 defines
abbrev pub definition_of : ℕ → Symbol
definition_of i = defined (Definition.constant (constant_name (suc i)) (wrapped (constant_name i)))

-- what is taken after i blocks: f as an input, and the constants of the blocks
abbrev pub symbols_after : ℕ → List Symbol
symbols_after zero = input_constant f ∷ []
symbols_after (suc i) = symbols_after i ++ definition_of i ∷ []

-- an accepted run of the article, which is one of bytes: it takes these symbols, assumes nothing, and has one export, which says this of
-- the last constant
pub record IsTrialRun (n : ℕ) (a : Accepted) : Type 0 where
  pub bytes : AreBytes (trial_text n)
  pub short : length (trial_text n) < max_article
  pub run : Run (trial_text n ∷ []) (accepted a)
  pub taken : symbols_of a.made ≡ symbols_after n
  pub assumptions : a.assumptions ≡ []
  pub export : ℕ
  pub exports : a.exports ≡ export ∷ []
  pub says : slice_get (sequents_of a.made) export ≡ Some (theorem_of n)

-- each article of 1 to 100,000 blocks is accepted
abbrev pub TrialsAreAccepted : Type 0
TrialsAreAccepted = (n : ℕ) → 0 < n → n ≤ 100000 → (a : Accepted) × IsTrialRun n a
