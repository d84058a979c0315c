-- The text of commands gives these commands, a line each.
use Rattle.std.proofs.Common.{◌≡◌, ℕ, ◌+◌, ◌≤◌, List, [], ◌∷◌, ◌++◌, length, refl, ap, ◌∙◌, arith, append_assoc, length-append}
use Rattle.std.specs.List.{AllByRecursion}
use Rattle.article_spec.specs.declared.commands.Item.{Item}
use Rattle.article_spec.specs.Lines.{newline, max_article, open_line, gives, Lines, last_skipped, ended}
use Rattle.article_trial_laws.specs.TrialLines.{numbered, Reads}
use Rattle.article_write_spec.specs.ItemTexts.{item_text, text_of}
use Rattle.article_write_laws.specs.ItemLaws.{IsWritable, content-item, item-short}

-- from line n at offset o on
reads : (items : List Item) (n o : ℕ) → AllByRecursion IsWritable items → o + length (text_of items) ≤ max_article
    → Reads n o (text_of items) (numbered n items)
reads [] n o h small = record { line = n; offset = o; opens = open_line (record { one_line = tt; short = omega arith; within = omega (arith, small) }) }
reads (i ∷ is) n o h small =
    let w = item_text i in
    let long : length (text_of (i ∷ is)) ≡ length w + 1 + length (text_of is) =
    length-append (w ++ newline ∷ []) (text_of is) ∙ ap (λ k. k + length (text_of is)) (length-append w (newline ∷ [])) in
    let line = item-short i h.0 in
    let more = reads is (n + 1) (o + length w + 1) h.1 (omega (arith, small, long)) in
    record {
      line = more.line;
      offset = more.offset;
      opens = gives (record {
        is = append_assoc w (newline ∷ []) (text_of is);
        one_line = line.one_line;
        short = line.short;
        within = omega (arith, small, long);
        means = content-item i h.0;
      }) more.opens;
    }

-- The text reads back as its commands
pub text-Lines : (items : List Item) → AllByRecursion IsWritable items → length (text_of items) ≤ max_article
    → (m : ℕ) × Lines (text_of items) (numbered 1 items) (ended m)
text-Lines items h small = let r = reads items 1 0 h (omega (arith, small)) in (r.line, last_skipped r.opens refl)
