-- The table's trees meet what Binding asks.
use Rattle.std.proofs.Common.{◌≡◌, ℕ, suc, refl, sym, ap, ◌∙◌, List, [], ◌∷◌, Some}
use Rattle.common.specs.Binding.{puts as puts_of, Pairwise}
use Rattle.hol_spec.specs.Terms.{Term}
use Rattle.hol_spec.specs.TermBinding.{lift, put, put_at, put_all}
use Rattle.hol_laws.specs.TermBindingLaws.{put_all-puts, puts}
use Rattle.std.proofs.lemmas.Option.{slice_get_within, same_Some}
use Rattle.std.proofs.Math.Path.{ap₂}
use Rattle.hol_term.specs.declared.TermId.{TermId}
use Rattle.hol_term.specs.Tables.{Trees, term_at, terms_at, AreKnown, Holds}
use Rattle.hol_term.specs.TableLaws.{Some-term_in}

puts-same : (k : ℕ) (us : List Term) (t : Term) → puts k us t ≡ puts_of lift put k us t
puts-same k [] t = refl
puts-same k (u ∷ us) t = ap (put (lift k u)) (puts-same (suc k) us t)

-- put_all is its puts one after another
pub put_list_puts : (us : List Term) (t : Term) → put_all us t ≡ puts_of lift (put_at 0) 0 us t
put_list_puts us t = put_all-puts us t ∙ puts-same 0 us t

-- a number has one tree
pub one_tree : (table : Trees) (id : TermId) (t u : Term) → Holds table id.0 t → Holds table id.0 u → t ≡ u
one_tree table id t u h k = same_Some _ _ (sym h ∙ k)

-- the numbers hold the trees that they have
pub Pairwise-known : (table : Trees) (ids : List TermId) (us : List Term) → Pairwise (λ id t. Holds table id.0 t) ids us → AreKnown table ids
Pairwise-known table [] us h = tt
Pairwise-known table (id ∷ ids) [] h = absurd h
Pairwise-known table (id ∷ ids) (u ∷ us) h = (slice_get_within table.terms id.0 u h.0, Pairwise-known table ids us h.1)

pub Pairwise-trees : (table : Trees) (ids : List TermId) (us : List Term) → Pairwise (λ id t. Holds table id.0 t) ids us → terms_at table ids ≡ us
Pairwise-trees table [] [] h = refl
Pairwise-trees table [] (u ∷ us) h = absurd h
Pairwise-trees table (id ∷ ids) [] h = absurd h
Pairwise-trees table (id ∷ ids) (u ∷ us) h = ap₂ (λ x l. x ∷ l) (Some-term_in table.terms id.0 u h.0) (Pairwise-trees table ids us h.1)

-- where a number has what is made of the tables' trees, it has it of each reading of them
pub Holds-put_all : (old new : Trees) (ids : List TermId) (body r : TermId) → Holds new r.0 (put_all (terms_at old ids) (term_at old body.0))
    → (us : List Term) (t : Term) → Pairwise (λ id t. Holds old id.0 t) ids us → Holds old body.0 t → Holds new r.0 (put_all us t)
Holds-put_all old new ids body r h us t p b = h ∙ ap₂ (λ xs x. Some (put_all xs x)) (Pairwise-trees old ids us p) (Some-term_in old.terms body.0 t b)
