-- How the tokens behind a term, or a part of one, begin.
use Rattle.std.proofs.Common.{List, [], ◌∷◌}
use Rattle.lp_spec.specs.Tokens.{Colon, Assign, Dot, RightParen, Placed, at}
use Rattle.lp_spec.specs.ReadingFaults.{Frame, Domain}

-- the tokens begin with one, and it is no `:`
abbrev pub IsApplied : List Placed → Type 0
IsApplied [] = ⊥
IsApplied (at p Colon ∷ tokens) = ⊥
IsApplied (at p token ∷ tokens) = Unit {0}

-- the tokens begin with one that ends a term
abbrev pub IsEnded : List Placed → Type 0
IsEnded (at p RightParen ∷ tokens) = Unit {0}
IsEnded (at p Dot ∷ tokens) = Unit {0}
IsEnded (at p Assign ∷ tokens) = Unit {0}
IsEnded _ = ⊥

-- no domain is open at once
abbrev pub IsOpen : List Frame → Type 0
IsOpen (Domain name ∷ frames) = ⊥
IsOpen _ = Unit {0}

-- a token that ends a term is no `:`
pub ended_applied : (tokens : List Placed) → IsEnded tokens → IsApplied tokens
ended_applied (at p RightParen ∷ tokens) h = tt
ended_applied (at p Dot ∷ tokens) h = tt
ended_applied (at p Assign ∷ tokens) h = tt
ended_applied _ h = absurd h
