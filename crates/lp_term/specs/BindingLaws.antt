-- The table's trees meet what Binding asks.
use Rattle.std.proofs.Common.{◌≡◌, ℕ, suc, refl, sym, ap, ◌∙◌, List, [], ◌∷◌, Some}
use Rattle.std.proofs.lemmas.Option.{same_Some}
use Rattle.std.proofs.Math.Path.{ap₂}
use Rattle.common.specs.Binding.{puts as puts_of, Pairwise}
use Rattle.lp_spec.specs.Trees.{Tree, lift, put, put_at, put_all}
use Rattle.lp_binding_laws.specs.Binding.{put_all-puts, puts}
use Rattle.lp_term.specs.declared.LpId.{LpId}
use Rattle.lp_term.specs.Tables.{tree_at, trees_at, AreKnown, Holds}
use Rattle.lp_term.specs.TableLaws.{Holds-tree_at, Holds-within}

puts-same : (k : ℕ) (us : List Tree) (t : Tree) → puts k us t ≡ puts_of lift put k us t
puts-same k [] t = refl
puts-same k (u ∷ us) t = ap (put (lift k u)) (puts-same (suc k) us t)

-- put_all is its puts one after another
pub put_list_puts : (us : List Tree) (t : Tree) → put_all us t ≡ puts_of lift (put_at 0) 0 us t
put_list_puts us t = put_all-puts us t ∙ puts-same 0 us t

-- a number has one tree
pub one_tree : (table : List Tree) (id : LpId) (t u : Tree) → Holds table id.0 t → Holds table id.0 u → t ≡ u
one_tree table id t u h k = same_Some _ _ (sym h ∙ k)

-- the numbers hold the trees that they have
pub Pairwise-known : (table : List Tree) (ids : List LpId) (us : List Tree) → Pairwise (λ id t. Holds table id.0 t) ids us → AreKnown table ids
Pairwise-known table [] us h = tt
Pairwise-known table (id ∷ ids) [] h = absurd h
Pairwise-known table (id ∷ ids) (u ∷ us) h = (Holds-within table id.0 u h.0, Pairwise-known table ids us h.1)

pub Pairwise-trees : (table : List Tree) (ids : List LpId) (us : List Tree) → Pairwise (λ id t. Holds table id.0 t) ids us → trees_at table ids ≡ us
Pairwise-trees table [] [] h = refl
Pairwise-trees table [] (u ∷ us) h = absurd h
Pairwise-trees table (id ∷ ids) [] h = absurd h
Pairwise-trees table (id ∷ ids) (u ∷ us) h = ap₂ (λ x l. x ∷ l) (Holds-tree_at table id.0 u h.0) (Pairwise-trees table ids us h.1)

-- where a number has what is made of the tables' trees, it has it of each reading of them
pub Holds-put_all : (old new : List Tree) (ids : List LpId) (body r : LpId) → Holds new r.0 (put_all (trees_at old ids) (tree_at old body.0))
    → (us : List Tree) (t : Tree) → Pairwise (λ id t. Holds old id.0 t) ids us → Holds old body.0 t → Holds new r.0 (put_all us t)
Holds-put_all old new ids body r h us t p b = h ∙ ap₂ (λ xs x. Some (put_all xs x)) (Pairwise-trees old ids us p) (Holds-tree_at old body.0 t b)
