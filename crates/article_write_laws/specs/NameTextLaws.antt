-- The line that writes a name says it.
use Rattle.std.proofs.Common.{◌≡◌, ℕ, ◌==◌, ◌||◌, Bool, true, false, List, [], ◌∷◌, ◌++◌, reverse, Some, None, option_map, unwrap_or, refl, sym, ap, ◌∙◌, cond, append_assoc}
use Rattle.std.specs.Option.{option_or}
use Rattle.std.proofs.lemmas.List.{append-nil, reverse-append, reverse-reverse}
use Rattle.hol_spec.specs.Names.{Name, quote, dot, backslash}
use Rattle.hol_spec.specs.NameOf.{name_from, with_byte}
use Rattle.common.specs.declared.faults.Kind.TheVariants as kind
use Rattle.article_spec.specs.declared.commands.Item.TheVariants as item
use Rattle.article_spec.specs.Contents.{command, faulty, content, drop_blanks, trimmed, said, as_word}
use Rattle.article_write_spec.specs.ItemTexts.{is_escaped, component_text, components_text, name_text}

-- a component before what writes the rest of a name
component-read : (bytes rest component : List ℕ) (name : Name) → name_from rest ≡ Some (component ∷ name)
    → name_from (component_text bytes ++ rest) ≡ Some ((bytes ++ component) ∷ name)
component-read [] rest component name e = e
component-read (b ∷ bytes) rest component name e = go (is_escaped b) refl (component-read bytes rest component name e)
  where
    plain : (q d s : Bool) → (q || d || s) ≡ false → (q ≡ false) × (d ≡ false) × (s ≡ false)
    plain false false false h = (refl, refl, refl)
    plain true d s h = absurd (cc)
    plain false true s h = absurd (cc)
    plain false false true h = absurd (cc)

    go : (x : Bool) → is_escaped b ≡ x → name_from (component_text bytes ++ rest) ≡ Some ((bytes ++ component) ∷ name)
        → name_from (cond x (backslash ∷ b ∷ component_text bytes) (b ∷ component_text bytes) ++ rest) ≡ Some ((b ∷ (bytes ++ component)) ∷ name)
    go true h again = ap (option_map (with_byte b)) again
    go false h again =
        let p = plain (b == quote) (b == dot) (b == backslash) h in
        rw (p.0, p.1, p.2) (ap (option_map (with_byte b)) again)

components-read : (bytes : List ℕ) (name : Name) → name_from (components_text (bytes ∷ name) ++ quote ∷ []) ≡ Some (bytes ∷ name)
components-read bytes [] = component-read bytes (quote ∷ []) [] [] refl ∙ ap (λ l. Some (l ∷ [])) (append-nil bytes)
components-read bytes (more ∷ name) =
    ap name_from (append_assoc (component_text bytes) (dot ∷ components_text (more ∷ name)) (quote ∷ []))
    ∙ component-read bytes (dot ∷ (components_text (more ∷ name) ++ quote ∷ [])) [] (more ∷ name)
    (ap (option_map (λ name. [] ∷ name)) (components-read more name))
    ∙ ap (λ l. Some (l ∷ more ∷ name)) (append-nil bytes)

-- a text between quotes has no blanks at its ends
trimmed-quoted : (text : List ℕ) → trimmed (34 ∷ (text ++ 34 ∷ [])) ≡ 34 ∷ (text ++ 34 ∷ [])
trimmed-quoted text =
    ap (λ l. reverse (drop_blanks l)) (reverse-append (34 ∷ text) (34 ∷ [])) ∙ ap reverse (sym (reverse-append (34 ∷ text) (34 ∷ [])))
    ∙ reverse-reverse (34 ∷ (text ++ 34 ∷ []))

-- A name
pub content-name : (bytes : List ℕ) (name : Name) → content (name_text (bytes ∷ name)) ≡ command (item.Name (bytes ∷ name))
content-name bytes name =
    ap said (trimmed-quoted (components_text (bytes ∷ name)))
    ∙ ap (λ o. unwrap_or (option_or None (option_or (option_map (λ n. command (item.Name n)) o) (as_word (name_text (bytes ∷ name))))) (faulty kind.BadLine))
    (components-read bytes name)
