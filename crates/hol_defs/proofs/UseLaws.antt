-- What the use of a constant or of an operator takes.
use Rattle.std.proofs.Common.{◌≡◌, ℕ, Global, arith, refl, ap, sym, ◌∙◌, List, [], ◌∷◌, ◌++◌, map, length, Bool, true, false, cond, Option, None, Some}
use Rattle.std.specs.Prelude.{◌||◌, is_some, take, MatchOption}
use Rattle.std.specs.List.{list_any}
use Rattle.std.specs.Vec.{vec_len}
use Rattle.std.specs.declared.vec.Vec.{Vec}
use Rattle.std.proofs.lemmas.List.{append-nil, map-append, take-map}
use Rattle.std.proofs.lemmas.List.Folds.{list_any-append}
use Rattle.std.proofs.lemmas.Grind.{common_steps, flat_map-append}
use Rattle.std.proofs.Math.Path.{ap₂}
use Rattle.std.proofs.Math.Seq.{take-append_seam}
use Rattle.hol_spec.specs.Names.{Name}
use Rattle.hol_spec.specs.NameEquality.{name_eq}
use Rattle.hol_laws.specs.NameEqualityLaws.{name_eq-Decides}
use Rattle.hol_spec.specs.Lists.{is_in, union}
use Rattle.hol_spec.specs.Types.{HolType}
use Rattle.hol_spec.specs.Substitution.{TypePairs, substitute, is_instance}
use Rattle.hol_laws.specs.SubstitutionLaws.{is_instance-Decides}
use Rattle.hol_spec.specs.Symbols.{Symbol, input_constant, input_operator, is_input_constant, is_input_operator, generic_type, operator_arity, new_constant, new_operator}
use Rattle.hol_type.specs.declared.table.TypeId.{TypeId}
use Rattle.hol_type.specs.Tables.{pairs_at}
use Rattle.hol_term.specs.declared.TermId.{TermId}
use Rattle.hol_defs.specs.declared.entry.Entry.{Entry}
use Rattle.hol_defs.specs.Indexes.{taken_of, uses_in, uses_of, inputs_in, inputs_of, generics_in, arities_in, same_use, is_used, IsIndexed}
use Rattle.hol_defs.specs.Symbols.{Taken}

nothing_more : (symbols : List Symbol) (b : Bool) (x : Symbol) → b ≡ true → symbols ≡ symbols ++ cond b [] (x ∷ [])
nothing_more symbols true x e = sym (append-nil symbols)
nothing_more symbols false x e = absurd (cc)

or-second : (a b : Bool) → b ≡ true → (a || b) ≡ true
or-second true b e = refl
or-second false b e = e

-- a constant that is an input is not taken again
pub used_again : (symbols : List Symbol) (n : Name) → list_any (is_input_constant n) symbols ≡ true → symbols ≡ symbols ++ new_constant symbols n
used_again symbols n e = nothing_more symbols (is_some (generic_type symbols n) || list_any (is_input_constant n) symbols) (input_constant n)
    (or-second (is_some (generic_type symbols n)) (list_any (is_input_constant n) symbols) e)

-- one that is nothing is taken
pub used_first : (symbols : List Symbol) (n : Name) → generic_type symbols n ≡ None → list_any (is_input_constant n) symbols ≡ false → input_constant n ∷ []
    ≡ new_constant symbols n
used_first symbols n e f = ap₂ (λ o b. cond (is_some o || b) [] (input_constant n ∷ [])) (sym e) (sym f)

-- an operator that is an input at so many arguments is not taken again
pub operator_again : (symbols : List Symbol) (n : Name) (k : ℕ) → list_any (is_input_operator n k) symbols ≡ true → symbols ≡ symbols
    ++ new_operator symbols n k
operator_again symbols n k e = nothing_more symbols (is_some (operator_arity symbols n) || list_any (is_input_operator n k) symbols) (input_operator n k)
    (or-second (is_some (operator_arity symbols n)) (list_any (is_input_operator n k) symbols) e)

pub operator_first : (symbols : List Symbol) (n : Name) (k : ℕ) → operator_arity symbols n ≡ None → list_any (is_input_operator n k) symbols ≡ false
    → input_operator n k ∷ [] ≡ new_operator symbols n k
operator_first symbols n k e f = ap₂ (λ o b. cond (is_some o || b) [] (input_operator n k ∷ [])) (sym e) (sym f)

-- an operator that takes a settled number of arguments is not taken
pub settled : (symbols : List Symbol) (n : Name) (j k : ℕ) → operator_arity symbols n ≡ Some j → symbols ≡ symbols ++ new_operator symbols n k
settled symbols n j k e = sym (append-nil symbols) ∙ ap
    (λ o. symbols ++ cond (is_some o || list_any (is_input_operator n k) symbols) [] (input_operator n k ∷ [])) (sym e)

-- a matching tells whether a type is an instance
pub instance-found : (types : List HolType) (g t : HolType) (found : Option (List (Name × TypeId)))
    → MatchOption found ((s : TypePairs) → substitute s g ≡ t → ⊥) (λ pairs. substitute (pairs_at types pairs) g ≡ t)
    → is_some found ≡ is_instance g t
instance-found types g t (Some pairs) m = sym ((is_instance-Decides g t).1 (pairs_at types pairs, m))
instance-found types g t None m = go (is_instance g t) (is_instance-Decides g t).0
  where
    go : (b : Bool) → (b ≡ true → (s : TypePairs) × (substitute s g ≡ t)) → false ≡ b
    go true f = absurd (let i = f refl in m i.0 i.1)
    go false f = refl

or-false : (b : Bool) → (b || false) ≡ b
or-false true = refl
or-false false = refl

-- what is among names when one more is taken
pub named : (ns : List Name) (n m : Name) → is_in name_eq m (union name_eq ns (n ∷ [])) ≡ (is_in name_eq m ns || name_eq m n)
named ns n m = go (is_in name_eq n ns) refl
  where
    again : (b : Bool) → name_eq m n ≡ b → is_in name_eq n ns ≡ true → is_in name_eq m ns ≡ (is_in name_eq m ns || b)
    again true e f = let s : m ≡ n = (name_eq-Decides m n).0 e in rw (s, f) refl
    again false e f = sym (or-false (is_in name_eq m ns))

    go : (b : Bool) → is_in name_eq n ns ≡ b → is_in name_eq m (cond b ns (ns ++ n ∷ [])) ≡ (is_in name_eq m ns || name_eq m n)
    go true e = again (name_eq m n) refl e
    go false e = list_any-append (name_eq m) ns (n ∷ []) ∙ ap (λ b. is_in name_eq m ns || b) (or-false (name_eq m n))

with_new : {A : Type 0} (b : Bool) (xs : List A) (x : A) → b ≡ false → cond b xs (xs ++ x ∷ []) ≡ xs ++ x ∷ []
with_new true xs x e = absurd (cc)
with_new false xs x e = refl

-- the tables have an operator more
pub IsIndexed-use : (xs : List Taken) (i : List Name) (g : List (Name × TypeId)) (u : List (Name × ℕ)) (ns : List Name) (a : List (Name × ℕ)) (n : Name) (k : ℕ)
    → IsIndexed xs i g u ns a → is_in same_use (n, k) (uses_of xs) ≡ false
    → IsIndexed (xs ++ Taken.input_operator n k ∷ []) i g (union same_use u ((n, k) ∷ [])) (union name_eq ns (n ∷ [])) a
IsIndexed-use xs i g u ns a n k h new = record {
  inputs_are = h.inputs_are ∙ sym (append-nil _) ∙ sym (flat_map-append inputs_in xs (Taken.input_operator n k ∷ []));
  generics_are = h.generics_are ∙ sym (append-nil _) ∙ sym (flat_map-append generics_in xs (Taken.input_operator n k ∷ []));
  uses_are = with_new (is_in same_use (n, k) u) u (n, k) (ap (is_in same_use (n, k)) h.uses_are ∙ new) ∙ ap (λ l. l ++ (n, k) ∷ []) h.uses_are
      ∙ sym (flat_map-append uses_in xs (Taken.input_operator n k ∷ []));
  names_are = λ m.
      named ns n m ∙ ap (λ b. b || name_eq m n) (h.names_are m) ∙ ap (λ b. is_used m (uses_of xs) || b) (sym (or-false (name_eq m n)))
      ∙ sym (list_any-append (λ v. name_eq m v.0) (uses_of xs) ((n, k) ∷ []))
      ∙ ap (is_used m) (sym (flat_map-append uses_in xs (Taken.input_operator n k ∷ [])));
  arities_are = h.arities_are ∙ sym (append-nil _) ∙ sym (flat_map-append arities_in xs (Taken.input_operator n k ∷ []));
}

-- with what the calls made, that is this
pub IsIndexed-used : (xs ys : List Taken) (i : List Name) (g : List (Name × TypeId)) (u v : List (Name × ℕ)) (ns ms : List Name) (a : List (Name × ℕ))
    (n : Name) (k : ℕ) → IsIndexed xs i g u ns a → is_in same_use (n, k) (uses_of xs) ≡ false
    → ys ≡ xs ++ Taken.input_operator n k ∷ [] → v ≡ union same_use u ((n, k) ∷ []) → ms ≡ union name_eq ns (n ∷ []) → IsIndexed ys i g v ms a
IsIndexed-used xs ys i g u v ns ms a n k h new e ev ems = rw (e, ev, ems) (IsIndexed-use xs i g u ns a n k h new)

-- the tables have an input constant more
pub IsIndexed-input : (xs ys : List Taken) (i j : List Name) (g : List (Name × TypeId)) (u : List (Name × ℕ)) (ns : List Name) (a : List (Name × ℕ)) (n : Name)
    → IsIndexed xs i g u ns a → is_in name_eq n (inputs_of xs) ≡ false
    → ys ≡ xs ++ Taken.input_constant n ∷ [] → j ≡ union name_eq i (n ∷ []) → IsIndexed ys j g u ns a
IsIndexed-input xs ys i j g u ns a n h new e ej = rw (e, ej) (record {
  inputs_are = with_new (is_in name_eq n i) i n (ap (is_in name_eq n) h.inputs_are ∙ new) ∙ ap (λ l. l ++ n ∷ []) h.inputs_are
      ∙ sym (flat_map-append inputs_in xs (Taken.input_constant n ∷ []));
  generics_are = h.generics_are ∙ sym (append-nil _) ∙ sym (flat_map-append generics_in xs (Taken.input_constant n ∷ []));
  uses_are = h.uses_are ∙ sym (append-nil _) ∙ sym (flat_map-append uses_in xs (Taken.input_constant n ∷ []));
  names_are = λ m. h.names_are m ∙ ap (is_used m) (sym (append-nil _) ∙ sym (flat_map-append uses_in xs (Taken.input_constant n ∷ [])));
  arities_are = h.arities_are ∙ sym (append-nil _) ∙ sym (flat_map-append arities_in xs (Taken.input_constant n ∷ []));
})

-- the tables have a defined constant more
pub IsIndexed-constant : (xs ys : List Taken) (i : List Name) (g h : List (Name × TypeId)) (u : List (Name × ℕ)) (ns : List Name) (a : List (Name × ℕ))
    (n : Name) (t : TermId) (ty : TypeId) → IsIndexed xs i g u ns a → ys ≡ xs ++ Taken.constant n t ty ∷ []
    → h ≡ g ++ (n, ty) ∷ [] → IsIndexed ys i h u ns a
IsIndexed-constant xs ys i g h u ns a n t ty was e eh = rw (e, eh) (record {
  inputs_are = was.inputs_are ∙ sym (append-nil _) ∙ sym (flat_map-append inputs_in xs (Taken.constant n t ty ∷ []));
  generics_are = ap (λ l. l ++ (n, ty) ∷ []) was.generics_are ∙ sym (flat_map-append generics_in xs (Taken.constant n t ty ∷ []));
  uses_are = was.uses_are ∙ sym (append-nil _) ∙ sym (flat_map-append uses_in xs (Taken.constant n t ty ∷ []));
  names_are = λ m. was.names_are m ∙ ap (is_used m) (sym (append-nil _) ∙ sym (flat_map-append uses_in xs (Taken.constant n t ty ∷ [])));
  arities_are = was.arities_are ∙ sym (append-nil _) ∙ sym (flat_map-append arities_in xs (Taken.constant n t ty ∷ []));
})

-- the symbols with an entry more
pub taken_of-last : (old new : List Entry) (x : Entry) (y : Taken) → new ≡ old ++ x ∷ [] → taken_of x ≡ y → map taken_of new ≡ map taken_of old ++ y ∷ []
taken_of-last old new x y e is = ap (map taken_of) e ∙ map-append taken_of old (x ∷ []) ∙ ap (λ z. map taken_of old ++ z ∷ []) is

-- the entries without what was put last keep the symbols that there were
pub taken_of-cut : (old : Vec Entry Global) (fs gs : List Entry) (x : Taken) (count : ℕ) → map taken_of fs ≡ map taken_of old.items ++ x ∷ [] → count
    ≡ vec_len old → gs ≡ take count fs → map taken_of gs ≡ map taken_of old.items
taken_of-cut old fs gs x count e n is =
    let long : count ≡ length (map taken_of old.items) = grind (arith, common_steps) in
    ap (map taken_of) is ∙ sym (take-map taken_of count fs) ∙ ap (take count) e ∙ ap (λ k. take k (map taken_of old.items ++ x ∷ [])) long
    ∙ take-append_seam (map taken_of old.items) (x ∷ [])

-- a set without what was taken last
pub take-united : {A : Type 0} (same : A → A → Bool) (xs : List A) (x : A) → take (length xs) (union same xs (x ∷ [])) ≡ xs
take-united {A = A} same xs x = go (is_in same x xs)
  where
    all : (ys zs : List A) → take (length ys) (ys ++ zs) ≡ ys
    all [] zs = refl
    all (y ∷ ys) zs = ap (λ l. y ∷ l) (all ys zs)

    whole : (ys : List A) → take (length ys) ys ≡ ys
    whole [] = refl
    whole (y ∷ ys) = ap (λ l. y ∷ l) (whole ys)

    go : (b : Bool) → take (length xs) (cond b xs (xs ++ x ∷ [])) ≡ xs
    go true = whole xs
    go false = all xs (x ∷ [])
