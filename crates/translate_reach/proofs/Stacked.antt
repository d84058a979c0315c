-- Tasks that are put on others from the last to the first.
use Rattle.std.proofs.Common.{◌≡◌, ◌-◌, ◌≤◌, List, [], ◌∷◌, ◌++◌, map, length, get_or, take, sym, ap, ◌∙◌, append_assoc}
use Rattle.std.proofs.lemmas.List.{map-append}
use Rattle.hol_laws.specs.PlaceLaws.{front-last}

-- the last of some is put first, and the others on it
pub stacked-front : {A B : Type 0} (f : A → B) (xs : List A) (d : A) (tasks : List B) → 1 ≤ length xs → map f (take (length xs - 1) xs)
    ++ f (get_or xs (length xs - 1) d) ∷ tasks ≡ map f xs ++ tasks
stacked-front f xs d tasks h =
    let front = take (length xs - 1) xs in
    let last = get_or xs (length xs - 1) d in
    sym (append_assoc (map f front) (f last ∷ []) tasks) ∙ ap (λ l. l ++ tasks) (sym (map-append f front (last ∷ [])) ∙ ap (map f) (front-last xs d h))
