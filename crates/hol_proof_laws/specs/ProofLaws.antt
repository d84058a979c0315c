-- Laws of what is made one after another: which are its steps, and which its symbols.
use Rattle.std.specs.List.{filter_map}
use Rattle.std.proofs.lemmas.List.{append-nil}
use Rattle.std.proofs.lemmas.List.Elements.{filter_map-append}
use Rattle.std.proofs.Common.{[], ◌∷◌, ◌++◌, map, ap, ◌∙◌, ◌≡◌, List, refl}
use Rattle.hol_spec.specs.Symbols.{Symbol}
use Rattle.hol_spec.specs.Proofs.{Step, Made, made_step, made_symbol, steps_of, symbols_of}

-- A step more is the last step.
pub steps_of-push : (made : List Made) (x : Step) → steps_of (made ++ Made.step x ∷ []) ≡ steps_of made ++ x ∷ []
steps_of-push made x = filter_map-append made_step made (Made.step x ∷ [])

-- Symbols are no steps, and steps no symbols.
pub steps_of-symbols : (made : List Made) (xs : List Symbol) → steps_of (made ++ map Made.symbol xs) ≡ steps_of made
steps_of-symbols made xs = filter_map-append made_step made (map Made.symbol xs) ∙ ap (λ ys. steps_of made ++ ys) (none xs) ∙ append-nil (steps_of made)
  where
    none : (xs : List Symbol) → filter_map made_step (map Made.symbol xs) ≡ []
    none [] = refl
    none (x ∷ xs) = none xs

pub symbols_of-steps : (xs : List Step) → symbols_of (map Made.step xs) ≡ []
symbols_of-steps [] = refl
symbols_of-steps (x ∷ xs) = symbols_of-steps xs

pub symbols_of-push : (made : List Made) (x : Step) → symbols_of (made ++ Made.step x ∷ []) ≡ symbols_of made
symbols_of-push made x = filter_map-append made_symbol made (Made.step x ∷ []) ∙ append-nil (symbols_of made)

pub symbols_of-symbols : (made : List Made) (xs : List Symbol) → symbols_of (made ++ map Made.symbol xs) ≡ symbols_of made ++ xs
symbols_of-symbols made xs = filter_map-append made_symbol made (map Made.symbol xs) ∙ ap (λ ys. symbols_of made ++ ys) (all xs)
  where
    all : (xs : List Symbol) → filter_map made_symbol (map Made.symbol xs) ≡ xs
    all [] = refl
    all (x ∷ xs) = ap (λ ys. x ∷ ys) (all xs)

-- Where nothing but steps was made, they are the steps.
pub steps_of-steps : (xs : List Step) → steps_of (map Made.step xs) ≡ xs
steps_of-steps [] = refl
steps_of-steps (x ∷ xs) = ap (λ ys. x ∷ ys) (steps_of-steps xs)
