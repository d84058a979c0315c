-- Where a row stands, after a use that puts it last or changes it.
use Rattle.std.proofs.Common.{◌≡◌, ◌∙◌, ◌++◌, Bool, true, false, List, [], ◌∷◌, Option, Some, None, refl, sym, ap, append-nil, true≢false}
use Rattle.std.specs.Prelude.{find, is_some, ◌||◌, if◌then◌else◌}
use Rattle.std.proofs.lemmas.Option.{same_Some}
use Rattle.std.specs.Str.{bytes_eq}
use Rattle.clap.specs.Walk.{Row, Text, at_row, has_row, with_values, without, more_values}
use Rattle.clap.specs.declared.builder.value_parser.Reading.{Reading}
use Rattle.clap.specs.declared.parser.matches.ValueSource.{ValueSource}

abbrev pub row_at : Text → List Row → Option Row
row_at id rows = find (λ r. bytes_eq r.id id) rows

-- where there is no row of an id, a change puts the new one last
pub at_row-None : (id : Text) (change : Row → List Row) (missing rows : List Row) → row_at id rows ≡ None → at_row id change missing rows ≡ rows ++ missing
at_row-None id change missing [] h = refl
at_row-None id change missing (r ∷ rows) h = go (bytes_eq r.id id) refl h (at_row-None id change missing rows)
  where
    go : (b : Bool) → bytes_eq r.id id ≡ b → (if b then Some r else row_at id rows) ≡ None
        → (row_at id rows ≡ None → at_row id change missing rows ≡ rows ++ missing)
        → at_row id change missing (r ∷ rows) ≡ (r ∷ rows) ++ missing
    go true e h more = absurd (true≢false (ap is_some h))
    go false e h more = rw e (ap (λ rs. r ∷ rs) (more h))

-- a use of an argument that was not used before
pub with_values-None : (id : Text) (how : Reading) (s : ValueSource) (values : List Text) (rows : List Row) → row_at id rows ≡ None
    → with_values id how s values rows ≡ rows ++ record { id = id; values = values; count = None; source = Some s; reading = how } ∷ []
with_values-None id how s values rows h = at_row-None id (more_values s values)
    (record { id = id; values = values; count = None; source = Some s; reading = how } ∷ []) rows h

pub without-None : (id : Text) (rows : List Row) → row_at id rows ≡ None → without id rows ≡ rows
without-None id rows h = at_row-None id (λ _. []) [] rows h ∙ append-nil rows

pub row_at-other : (id : Text) (r : Row) (rows : List Row) → bytes_eq r.id id ≡ false → row_at id (rows ++ r ∷ []) ≡ row_at id rows
row_at-other id r [] h = rw h refl
row_at-other id r (x ∷ rows) h = go (bytes_eq x.id id) (row_at-other id r rows h)
  where
    go : (b : Bool) → row_at id (rows ++ r ∷ []) ≡ row_at id rows → (if b then Some x else row_at id (rows ++ r ∷ [])) ≡ (if b then Some x else row_at id rows)
    go true e = refl
    go false e = e

pub row_at-same : (id : Text) (r : Row) (rows : List Row) → bytes_eq r.id id ≡ true → row_at id rows ≡ None → row_at id (rows ++ r ∷ []) ≡ Some r
row_at-same id r [] h none = rw h refl
row_at-same id r (x ∷ rows) h none = go (bytes_eq x.id id) none (row_at-same id r rows h)
  where
    go : (b : Bool) → (if b then Some x else row_at id rows) ≡ None → (row_at id rows ≡ None → row_at id (rows ++ r ∷ []) ≡ Some r)
        → (if b then Some x else row_at id (rows ++ r ∷ [])) ≡ Some r
    go true e more = absurd (true≢false (ap is_some e))
    go false e more = more e

pub has_row-at : (id : Text) (rows : List Row) → has_row id rows ≡ is_some (row_at id rows)
has_row-at id [] = refl
has_row-at id (x ∷ rows) = go (bytes_eq x.id id) (has_row-at id rows)
  where
    go : (b : Bool) → has_row id rows ≡ is_some (row_at id rows) → (b || has_row id rows) ≡ is_some (if b then Some x else row_at id rows)
    go true e = refl
    go false e = e

-- a use of an argument that was used before changes its row
pub row_at-changed : (id : Text) (change : Row → List Row) (missing rows : List Row) (r s : Row) → row_at id rows ≡ Some r → change r ≡ s ∷ []
    → bytes_eq s.id id ≡ true → row_at id (at_row id change missing rows) ≡ Some s
row_at-changed id change missing [] r s h c e = absurd (true≢false (sym (ap is_some h)))
row_at-changed id change missing (x ∷ rows) r s h c e = go (bytes_eq x.id id) refl h (row_at-changed id change missing rows r s)
  where
    go : (b : Bool) → bytes_eq x.id id ≡ b → (if b then Some x else row_at id rows) ≡ Some r
        → (row_at id rows ≡ Some r → change r ≡ s ∷ [] → bytes_eq s.id id ≡ true → row_at id (at_row id change missing rows) ≡ Some s)
        → row_at id (if b then change x ++ rows else x ∷ at_row id change missing rows) ≡ Some s
    go true b h more =
        let changed : change x ≡ s ∷ [] = ap change (same_Some x r h) ∙ c in
        rw (changed, e) refl
    go false b h more = rw b (more h c e)

pub row_at-kept : (id other : Text) (change : Row → List Row) (missing rows : List Row) (r s : Row) → row_at id rows ≡ Some r → change r ≡ s ∷ []
    → bytes_eq r.id other ≡ false → bytes_eq s.id other ≡ false
    → row_at other (at_row id change missing rows) ≡ row_at other rows
row_at-kept id other change missing [] r s h c e f = absurd (true≢false (sym (ap is_some h)))
row_at-kept id other change missing (x ∷ rows) r s h c e f = go (bytes_eq x.id id) refl h (row_at-kept id other change missing rows r s)
  where
    go : (b : Bool) → bytes_eq x.id id ≡ b → (if b then Some x else row_at id rows) ≡ Some r
        → (row_at id rows ≡ Some r → change r ≡ s ∷ [] → bytes_eq r.id other ≡ false → bytes_eq s.id other ≡ false
        → row_at other (at_row id change missing rows) ≡ row_at other rows)
        → row_at other (if b then change x ++ rows else x ∷ at_row id change missing rows) ≡ row_at other (x ∷ rows)
    go true b h more =
        let changed : change x ≡ s ∷ [] = ap change (same_Some x r h) ∙ c in
        let left : row_at other (change x ++ rows) ≡ row_at other rows = rw (changed, f) refl in
        let right : row_at other (x ∷ rows) ≡ row_at other rows = rw (same_Some x r h, e) refl in
        left ∙ sym right
    go false b h more = ap (λ o. if bytes_eq x.id other then Some x else o) (more h c e f)
