-- What a tree is applied to, in reverse order.
use Rattle.std.proofs.Common.{List, [], ◌∷◌}

-- the items of a list, the last first, before those of another
abbrev pub onto : {A : Type 0} → List A → List A → List A
onto [] ys = ys
onto (x ∷ xs) ys = onto xs (x ∷ ys)
