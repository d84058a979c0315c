-- What ends a component and is neither a dot nor the closing quote ends no name.
use Rattle.std.proofs.Common.{◌≡◌, ◌≢◌, ◌<◌, inl, inr, ℕ, List, [], ◌∷◌, None, Option, length, get_or, refl, ap, ◌∙◌, arith}
use Rattle.std.specs.Option.{option_map}
use Rattle.hol_spec.specs.Names.{Name, quote, dot}
use Rattle.hol_spec.specs.NameOf.{name_from}
use Rattle.hol_name.specs.Components.{StopsComponent, onto}

pub stopped : (after : List ℕ) → StopsComponent after → (length after ≡ 1 → get_or after 0 0 ≢ quote) → (0 < length after → get_or after 0 0 ≢ dot)
    → name_from after ≡ None
stopped [] stop one more = refl
stopped (b ∷ []) (inl e) one more = absurd (one refl e)
stopped (b ∷ c ∷ text) (inl e) one more = rw e refl
stopped (b ∷ text) (inr (inl e)) one more = absurd (more (omega arith) e)
stopped (b ∷ text) (inr (inr h)) one more = rw (h.0, h.1) refl

-- nothing is read of a line that goes on with it
pub no_name : (f : Name → Name) (bytes : List ℕ) (whole part : Option Name) (after : List ℕ) → whole ≡ option_map f part → part
    ≡ option_map (onto bytes) (name_from after) → name_from after ≡ None → whole ≡ None
no_name f bytes whole part after p q e = p ∙ ap (option_map f) (q ∙ ap (option_map (onto bytes)) e)
