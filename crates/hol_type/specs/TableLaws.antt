-- What follows from the words for tables.
use Rattle.std.proofs.Common.{◌≡◌, ℕ, suc, ◌<◌, ◌≤◌, refl, sym, ap, ◌∙◌, subst, arith, List, [], ◌∷◌, ◌++◌, length, Option, Some, None, ⊎_elim, length-append}
use Rattle.std.specs.Prelude.{unwrap_or, take}
use Rattle.std.proofs.lemmas.Option.{slice_get_within, slice_get-get_or, unwrap_or-slice_get, same_Some}
use Rattle.std.proofs.Math.Path.{ap₂}
use Rattle.hol_spec.specs.Names.{Name}
use Rattle.hol_spec.specs.Types.{HolType, variable, types_of, listed}
use Rattle.hol_type.specs.declared.table.TypeId.{TypeId}
use Rattle.hol_type.specs.Tables.{tree_at, Holds, types_at, pairs_at, AreKnown, ArePairsKnown, IsDistinct, Stays, Keeps, Adds}
use Rattle.hol_type.specs.Views.{AreBelow}
use Rattle.hol_laws.specs.PlaceLaws.{slice_get-append}

some_or : {X : Type 0} → X → Option X → X
some_or d None = d
some_or d (Some x) = x

-- a number that the table has, has its tree
pub tree_at-Holds : (ts : List HolType) (i : ℕ) → i < length ts → Holds ts i (tree_at ts i)
tree_at-Holds ts i h = slice_get-get_or ts i (variable []) h ∙ ap Some (sym (unwrap_or-slice_get ts i (variable [])))

-- a tree that the number has is the number's
pub Holds-tree_at : (ts : List HolType) (i : ℕ) (t : HolType) → Holds ts i t → tree_at ts i ≡ t
Holds-tree_at ts i t e = ap (λ o. unwrap_or o (variable [])) e

-- a number with a tree is one that the table has
pub Holds-within : (ts : List HolType) (i : ℕ) (t : HolType) → Holds ts i t → i < length ts
Holds-within ts i t e = slice_get_within ts i t e

pub Stays-refl : (ts : List HolType) → Stays ts ts
Stays-refl ts = record { each = λ i t e. e }

pub Stays-trans : {a b c : List HolType} → Stays a b → Stays b c → Stays a c
Stays-trans h k = record { each = λ i t e. k.each i t (h.each i t e) }

pub Stays-append : (ts us : List HolType) → Stays ts (ts ++ us)
Stays-append ts us = record { each = slice_get-append ts us }

pub Keeps-refl : (ts : List HolType) → Keeps ts ts
Keeps-refl ts = record { stays = Stays-refl ts; longer = omega arith; distinct = λ d. d }

pub Keeps-trans : {a b c : List HolType} → Keeps a b → Keeps b c → Keeps a c
Keeps-trans h k = record { stays = Stays-trans h.stays k.stays; longer = omega (arith, h.longer, k.longer); distinct = λ d. k.distinct (h.distinct d) }

-- a number's tree stays
pub tree_at-Stays : {ts us : List HolType} → Stays ts us → (i : ℕ) → i < length ts → tree_at ts i ≡ tree_at us i
tree_at-Stays {ts = ts} {us = us} k i h = sym (Holds-tree_at us i (tree_at ts i) (k.each i (tree_at ts i) (tree_at-Holds ts i h)))

-- the numbers of a table are of a longer one
pub AreKnown-Keeps : {ts us : List HolType} → Keeps ts us → (ids : List TypeId) → AreKnown ts ids → AreKnown us ids
AreKnown-Keeps k [] h = tt
AreKnown-Keeps k (id ∷ ids) h = (omega (arith, k.longer, h.0), AreKnown-Keeps k ids h.1)

-- their types stay
pub types_at-Stays : {ts us : List HolType} → Stays ts us → (ids : List TypeId) → AreKnown ts ids → types_at ts ids ≡ types_at us ids
types_at-Stays k [] h = refl
types_at-Stays k (id ∷ ids) h = ap₂ (λ t l. t ∷ l) (tree_at-Stays k id.0 h.0) (types_at-Stays k ids h.1)

pub ArePairsKnown-Keeps : {ts us : List HolType} → Keeps ts us → (ps : List (Name × TypeId)) → ArePairsKnown ts ps → ArePairsKnown us ps
ArePairsKnown-Keeps k [] h = tt
ArePairsKnown-Keeps k (p ∷ ps) h = (omega (arith, k.longer, h.0), ArePairsKnown-Keeps k ps h.1)

pub pairs_at-Stays : {ts us : List HolType} → Stays ts us → (ps : List (Name × TypeId)) → ArePairsKnown ts ps → pairs_at ts ps ≡ pairs_at us ps
pairs_at-Stays k [] h = refl
pairs_at-Stays k (p ∷ ps) h = ap₂ (λ t l. (p.0, t) ∷ l) (tree_at-Stays k p.1.0 h.0) (pairs_at-Stays k ps h.1)

-- numbers below one that the table has, or its length, are the table's
pub AreBelow-known : (ts : List HolType) (n : ℕ) (ids : List TypeId) → n ≤ length ts → AreBelow n ids → AreKnown ts ids
AreBelow-known ts n [] h b = tt
AreBelow-known ts n (id ∷ ids) h b = (omega (arith, h, b.0), AreBelow-known ts n ids h b.1)

pub AreKnown-below : (ts : List HolType) (ids : List TypeId) → AreKnown ts ids → AreBelow (length ts) ids
AreKnown-below ts [] h = tt
AreKnown-below ts (id ∷ ids) h = (h.0, AreKnown-below ts ids h.1)

-- where no type has two numbers, numbers with one type are one
pub tree_at-same : {ts : List HolType} → IsDistinct ts → (f g : TypeId) → f.0 < length ts → g.0 < length ts → tree_at ts f.0 ≡ tree_at ts g.0 → f ≡ g
tree_at-same {ts = ts} d f g hf hg e =
    let p = d.each f.0 g.0 (tree_at ts g.0) (tree_at-Holds ts f.0 hf ∙ ap Some e) (tree_at-Holds ts g.0 hg) in
    λ i. record { 0 = p i }

pub listed-types_of : (ts : List HolType) → listed (types_of ts) ≡ ts
listed-types_of [] = refl
listed-types_of (t ∷ ts) = ap (λ l. t ∷ l) (listed-types_of ts)

pub types_of-same : (ts us : List HolType) → types_of ts ≡ types_of us → ts ≡ us
types_of-same ts us e = sym (listed-types_of ts) ∙ ap listed e ∙ listed-types_of us

pub types_at-same : {ts : List HolType} → IsDistinct ts → (is js : List TypeId) → AreKnown ts is → AreKnown ts js → types_at ts is ≡ types_at ts js → is ≡ js
types_at-same d [] [] a b e = refl
types_at-same {ts = ts} d (i ∷ is) (j ∷ js) a b e =
    let f : tree_at ts i.0 ≡ tree_at ts j.0 = cc in
    let g : types_at ts is ≡ types_at ts js = cc in
    ap₂ (λ x l. x ∷ l) (tree_at-same d i j a.0 b.0 f) (types_at-same d is js a.1 b.1 g)
types_at-same d [] (j ∷ js) a b e = cc
types_at-same d (i ∷ is) [] a b e = cc

-- a table that has a tree more keeps what it had, if no tree stands twice
pub Adds-Keeps : (old new : List HolType) (t : HolType) → Adds old new t → IsDistinct new → Keeps old new
Adds-Keeps old new t a d = ⊎_elim
    (λ same. subst (Keeps old) (sym same) (Keeps-refl old))
    (λ more. record {
      stays = subst (Stays old) (sym more) (Stays-append old (t ∷ []));
      longer = let e = ap length more in omega (arith, e, length-append old (t ∷ []));
      distinct = λ _. d;
    })
    a

-- the front of a table that kept an older one is the older one
pub take-Stays : (ts us : List HolType) → Stays ts us → take (length ts) us ≡ ts
take-Stays [] us k = refl
take-Stays (t ∷ ts) [] k = absurd (let h = slice_get_within [] 0 t (k.each 0 t refl) in omega arith)
take-Stays (t ∷ ts) (u ∷ us) k = ap₂ (λ x l. x ∷ l) (same_Some _ _ (k.each 0 t refl)) (take-Stays ts us (record { each = λ i v e. k.each (suc i) v e }))
