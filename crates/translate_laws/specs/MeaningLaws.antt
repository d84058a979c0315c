-- The symbols that a module declares as the translation does mean what they stand for: by its name and its declared type a symbol stands for a
-- constant with the closed form of its generic type.
use Rattle.std.proofs.Common.{◌≡◌, ℕ, zero, suc, ◌+◌, List, [], ◌∷◌, ◌++◌, map, length, Bool, true, false, cond, Some, None, inl, inr, refl, sym, ap, subst, ◌∙◌, arith}
use Rattle.std.specs.Prelude.{nat_eq, slice_get, codes}
use Rattle.std.specs.Bool.{Decides}
use Rattle.std.specs.Cmp.{unsigned_Decides}
use Rattle.std.specs.List.{IsDistinct, position_or_len}
use Rattle.std.proofs.lemmas.List.{map-append}
use Rattle.std.proofs.lemmas.Option.{same_Some}
use Rattle.hol_spec.specs.Names.{Name}
use Rattle.hol_spec.specs.NameEquality.{name_eq}
use Rattle.hol_laws.specs.NameEqualityLaws.{name_eq-Decides}
use Rattle.hol_spec.specs.Types as type
use Rattle.hol_spec.specs.Types.{HolType, HolTypes, variable_places, variable_places_of_all, type_variables}
use Rattle.hol_spec.specs.Lists.{distinct, IsIn}
use Rattle.hol_laws.specs.ListLaws.{union-map, distinct-IsDistinct}
use Rattle.hol_spec.specs.Primitives.{primitive_type}
use Rattle.hol_spec.specs.ClosedForm.{close_type, close_types}
use Rattle.hol_spec.specs.Mangling.{mangled, IsName}
use Rattle.lp_spec.specs.Modules.{Declaration, symbol_name, products, term_of}
use Rattle.translate_spec.specs.TypeEnc.{place}
use Rattle.translate_spec.specs.ConstantMeaning.{parameter_places, parameter_places_of_all, numbers, MeansConstant, defined}
use Rattle.hol_laws.specs.Members.{IsIn-distinct, All-each, All-weaker, map-each, map-twice}
use Rattle.translate_spec.specs.Scopes.{SymbolMap, constant_symbol, generic_type, type_tree, under_types, unfilled}
use Rattle.translate_laws.specs.ScopeTyping.{DeclaresConstant}
use Rattle.translate_laws.specs.ToldParameters.{TypesTold, TypesTold-own}
use Rattle.translate_laws.specs.SequentEncoding.{TypeMeant, type_stands, placed-types, types-are}
use Rattle.hol_proof_laws.specs.SymbolGrowth.{symmetric}

abbrev pub at : List Name → Name → ℕ
at vs n = position_or_len (name_eq n) vs

mutual
  -- the variables of a closed type at their places
  places-closed : (vs : List Name) (t : HolType) → parameter_places (close_type vs t) ≡ map (at vs) (variable_places t)
  places-closed vs (type.HolType.variable n) = refl
  places-closed vs (type.HolType.operator n ts) = all_places-closed vs ts

  all_places-closed : (vs : List Name) (ts : HolTypes) → parameter_places_of_all (close_types vs ts) ≡ map (at vs) (variable_places_of_all ts)
  all_places-closed vs type.HolTypes.none = refl
  all_places-closed vs (type.HolTypes.more t ts) =
      rw (places-closed vs t, all_places-closed vs ts) (sym (map-append (at vs) (variable_places t) (variable_places_of_all ts)))

at-cons : (v : Name) (vs : List Name) (n : Name) (b : Bool) → name_eq n v ≡ b → at (v ∷ vs) n ≡ cond b 0 (suc (at vs n))
at-cons v vs n true e = rw e refl
at-cons v vs n false e = rw e (omega arith)

-- an element stands at its place
get-at : (vs : List Name) (n : Name) → IsIn vs n → slice_get vs (at vs n) ≡ Some n
get-at [] n k = absurd k
get-at (v ∷ vs) n k = go (name_eq n v) refl (name_eq-Decides n v) (λ i. get-at vs n i) k
  where
    go : (b : Bool) → name_eq n v ≡ b → Decides (name_eq n v) (n ≡ v) → (IsIn vs n → slice_get vs (at vs n) ≡ Some n) → IsIn (v ∷ vs) n
        → slice_get (v ∷ vs) (at (v ∷ vs) n) ≡ Some n
    go true e d later k = ap (slice_get (v ∷ vs)) (at-cons v vs n true e) ∙ ap Some (sym (d.0 e))
    go false e d later (inl is) = absurd (let yes = d.1 is in cc)
    go false e d later (inr i) = ap (slice_get (v ∷ vs)) (at-cons v vs n false e) ∙ later i

-- two elements stand at one place exactly where they are one
at-agrees : (vs : List Name) (m n : Name) → IsIn vs m → IsIn vs n → nat_eq (at vs m) (at vs n) ≡ name_eq m n
at-agrees vs m n i j = go (name_eq m n) (name_eq-Decides m n) (nat_eq (at vs m) (at vs n)) (unsigned_Decides (at vs m) (at vs n))
  where
    go : (b : Bool) → Decides b (m ≡ n) → (c : Bool) → Decides c (at vs m ≡ at vs n) → c ≡ b
    go true d c e = e.1 (ap (at vs) (d.0 refl))
    go false d true e = let same : m ≡ n = same_Some _ _ (sym (get-at vs m i) ∙ ap (slice_get vs) (e.0 refl) ∙ get-at vs n j) in sym (d.1 same)
    go false d false e = refl

map-numbers : (i k : ℕ) → map suc (numbers i k) ≡ numbers (suc i) k
map-numbers i zero = refl
map-numbers i (suc k) = ap (λ l. suc i ∷ l) (map-numbers (suc i) k)

-- the elements of a list without repeats stand at 0, 1, ..
in-order : (vs : List Name) → IsDistinct name_eq vs → map (at vs) vs ≡ numbers 0 (length vs)
unfolding IsDistinct
in-order [] h = refl
in-order (v ∷ vs) h =
    let first : at (v ∷ vs) v ≡ 0 = at-cons v vs v true ((name_eq-Decides v v).1 refl) in
    let others : map (at (v ∷ vs)) vs ≡ map (λ n. suc (at vs n)) vs =
    map-each (at (v ∷ vs)) (λ n. suc (at vs n)) vs
    (All-weaker (λ n. name_eq v n ≡ false) (λ n. at (v ∷ vs) n ≡ suc (at vs n)) (λ n e. at-cons v vs n false (symmetric name_eq name_eq-Decides v n e)) vs
    h.0) in
    λ i. first i ∷ (others ∙ sym (map-twice suc (at vs) vs) ∙ ap (map suc) (in-order vs h.1) ∙ map-numbers 0 (length vs)) i

-- the variables of the closed form of a generic type come in order
pub generic-in_order : (g : HolType) → distinct nat_eq (parameter_places (close_type (type_variables g) g)) ≡ numbers 0 (length (type_variables g))
generic-in_order g =
    let vs = type_variables g in
    ap (distinct nat_eq) (places-closed vs g)
    ∙ sym (union-map (at vs) name_eq nat_eq (IsIn vs) (at-agrees vs) (variable_places g) [] (tt {0})
    (All-each _ (variable_places g) (λ n i. IsIn-distinct name_eq name_eq-Decides (variable_places g) n i)))
    ∙ in-order vs (distinct-IsDistinct name_eq (symmetric name_eq name_eq-Decides) (variable_places g))

-- A symbol means its constant: named by `c_` and the name, and declared at its generic type
pub constant-means : (d : List Declaration) (symbols : SymbolMap) (n : Name) → DeclaresConstant d symbols n → IsName n → primitive_type n ≡ None
    → symbol_name d (constant_symbol symbols n) ≡ codes "c_" ++ mangled n → TypeMeant d symbols (generic_type symbols n)
    → MeansConstant d (constant_symbol symbols n) n (length (type_variables (generic_type symbols n)))
    (close_type (type_variables (generic_type symbols n)) (generic_type symbols n))
constant-means d symbols n declared is not_primitive text meant =
    let g = generic_type symbols n in
    let vs = type_variables g in
    let k = length vs in
    let outer : k ≡ k + 0 + 0 + 0 = omega arith in
    let told = TypesTold-own vs (distinct-IsDistinct name_eq (symmetric name_eq name_eq-Decides) (variable_places g)) in
    defined (record { is_name = is; not_primitive = not_primitive; text = text })
    (record {
      tree = type_tree symbols (under_types vs unfilled) g;
      ty = declared ∙ ap (λ ds. Some (products ds (term_of (type_tree symbols (under_types vs unfilled) g)))) (types-are vs);
      stands = type_stands d symbols vs (place k 0 0 0) (under_types vs unfilled)
          (placed-types d symbols vs (place k 0 0 0) (under_types vs unfilled) refl (subst (λ j. TypesTold vs j (under_types vs unfilled)) outer told)) g meant
          (All-each _ (variable_places g) (λ n i. IsIn-distinct name_eq name_eq-Decides (variable_places g) n i));
      in_order = generic-in_order g;
    })
