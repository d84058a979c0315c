-- The text of the name of a binder.
use Rattle.std.proofs.Common.{◌≡◌, ℕ, ◌+◌, ◌<◌, ◌^◌, true, false, cond, List, [], ◌∷◌, ◌++◌, length, length-append, refl, sym, ap, ◌∙◌, arith, decimal, append_assoc}
use Rattle.std.specs.List.{list_all, AllByRecursion}
use Rattle.std.proofs.lemmas.Bool.{and_parts}
use Rattle.std.proofs.lemmas.Bool.Decides.{nat_tests}
use Rattle.hol_laws.specs.Members.{All-append}
use Rattle.hol_spec.specs.Names.{backslash, quote}
use Rattle.article_spec.specs.Lines.{newline}
use Rattle.article_spec.specs.Numbers.{is_digit}
use Rattle.article_spec.specs.declared.commands.Item.TheVariants as item
use Rattle.article_write_spec.specs.BinderNames.{binder_front, binder_name}
use Rattle.article_write_spec.specs.ItemTexts.{is_escaped, component_text}
use Rattle.article_write_spec.specs.Lengths.{name_length}
use Rattle.article_write_laws.specs.NumberTextLaws.{decimal-HasValue}
use Rattle.article_lines.specs.Writing.{line}

-- where no byte is escaped, a component is its own text
plain-component : (bytes : List ℕ) → AllByRecursion (λ b. is_escaped b ≡ false) bytes → component_text bytes ≡ bytes
plain-component [] h = refl
plain-component (b ∷ bytes) h = ap (λ e. cond e (backslash ∷ b ∷ component_text bytes) (b ∷ component_text bytes)) h.0 ∙ ap (λ l. b ∷ l)
    (plain-component bytes h.1)

digit-plain : (b : ℕ) → is_digit b ≡ true → is_escaped b ≡ false
digit-plain b h = grind (arith, nat_tests, h)

digits-plain : (ds : List ℕ) → list_all is_digit ds ≡ true → AllByRecursion (λ b. is_escaped b ≡ false) ds
digits-plain [] h = tt
digits-plain (d ∷ ds) h = let p = and_parts (is_digit d) (list_all is_digit ds) h in (digit-plain d p.0, digits-plain ds p.1)

binder-plain : (q d : ℕ) → q < 2 ^ 64 → d < 2 ^ 64 → component_text (binder_front q ++ decimal d) ≡ binder_front q ++ decimal d
binder-plain q d h k =
    let one = digits-plain (decimal q) (decimal-HasValue q (omega (arith, h))).digits in
    let two = digits-plain (decimal d) (decimal-HasValue d (omega (arith, k))).digits in
    let P : ℕ → Type 0 = λ b. is_escaped b ≡ false in
    plain-component (binder_front q ++ decimal d)
    (All-append P (binder_front q) (decimal d) (All-append P (95 ∷ decimal q) (95 ∷ []) (refl, one) (refl, tt)) two)

pub binder-parts : (q d : ℕ) (first second : List ℕ) → first ≡ decimal q → second ≡ decimal d → q < 2 ^ 64 → d < 2 ^ 64
    → line (item.Name (binder_name q d)) ≡ 34 ∷ 95 ∷ (first ++ 95 ∷ (second ++ 34 ∷ 10 ∷ []))
binder-parts q d first second e f h k =
    ap (λ l. (quote ∷ l ++ quote ∷ []) ++ newline ∷ []) (binder-plain q d h k)
    ∙ (let parts : (34 ∷ (95 ∷ decimal q ++ 95 ∷ []) ++ decimal d ++ 34 ∷ []) ++ 10 ∷ [] ≡ 34 ∷ 95 ∷ (decimal q ++ 95 ∷ (decimal d ++ 34 ∷ 10 ∷ [])) =
    simp append_assoc in parts)
    ∙ ap (λ l. 34 ∷ 95 ∷ (l ++ 95 ∷ (decimal d ++ 34 ∷ 10 ∷ []))) (sym e) ∙ ap (λ l. 34 ∷ 95 ∷ (first ++ 95 ∷ (l ++ 34 ∷ 10 ∷ []))) (sym f)

pub binder-length : (q d : ℕ) → q < 2 ^ 64 → d < 2 ^ 64 → name_length (binder_name q d) ≡ length (decimal q) + length (decimal d) + 5
binder-length q d h k =
    let parts : binder_front q ++ decimal d ≡ 95 ∷ (decimal q ++ (95 ∷ decimal d)) = ap (λ l. 95 ∷ l) (append_assoc (decimal q) (95 ∷ []) (decimal d)) in
    let t : length (component_text (binder_front q ++ decimal d)) ≡ length (95 ∷ decimal q ++ 95 ∷ decimal d) = ap length (binder-plain q d h k ∙ parts) in
    let a = length-append (decimal q) (95 ∷ decimal d) in
    let b = length-append (component_text (binder_front q ++ decimal d)) (34 ∷ []) in
    omega (arith, t, a, b)
