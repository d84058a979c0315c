-- Keys and pairs in order of coming, where one comes.
use Rattle.std.specs.Prelude.{Bool, List, [], ◌∷◌, ◌++◌, if◌then◌else◌}
use Rattle.std.specs.List.{list_any}

-- the keys, once k has come: they stay if one is equal to it, and else it goes last
abbrev pub insert_key : {T : Type 0} → (T → T → Bool) → List T → T → List T
insert_key eq ks k = if list_any (eq k) ks then ks else ks ++ k ∷ []

-- the pairs, once k has come with v: a key that is there keeps its place and takes the value, and a new one goes last
abbrev pub insert_entry : {K V : Type 0} → (K → K → Bool) → List (K × V) → K → V → List (K × V)
insert_entry eq [] k v = (k, v) ∷ []
insert_entry eq (e ∷ es) k v = if eq k e.0 then (e.0, v) ∷ es else e ∷ insert_entry eq es k v
