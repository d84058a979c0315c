-- The whole article: what its lines say, that they are short enough, what they lead to, and that the article is accepted.
use Rattle.std.proofs.Common.{◌≡◌, ℕ, zero, suc, ◌+◌, ◌*◌, ◌<◌, ◌≤◌, ◌==◌, Bool, true, false, cond, List, [], ◌∷◌, ◌++◌, length, refl, sym, ap, ◌∙◌, subst, arith, Ok, codes, decimal, length-append}
use Rattle.std.proofs.lemmas.Bool.Decides.{nat_tests}
use Rattle.std.proofs.lemmas.Fmt.{length-decimal-le}
use Rattle.std.specs.FinMap as entries
use Rattle.hol_spec.specs.Proofs.{Accepted, Made}
use Rattle.hol_proof_laws.specs.ProofLaws.{symbols_of-push}
use Rattle.article_spec.specs.declared.commands.Item.{Item}
use Rattle.article_spec.specs.declared.commands.Item.TheVariants as item
use Rattle.article_spec.specs.State.{State, initial, start, version_at}
use Rattle.article_spec.specs.Lines.{max_article, ended}
use Rattle.article_spec.specs.Results.{◌>>=◌}
use Rattle.article_spec.specs.Run.{machine, obey_article, end_article, accepted_state, passed, finished}
use Rattle.article_spec.specs.RuleSteps.{restatement}
use Rattle.article_spec.specs.Trial.{words, lines, beginning, name_line, chained, block, blocks, ending, trial_text}
use Rattle.vectors.proofs.TrialParts.{lines-append, block_parts, defined as defining_words, kept as keeping_words}
use Rattle.article_trial_laws.specs.Trials.{f, constant_name, IsTrialRun, TrialsAreAccepted}
use Rattle.article_trial_laws.specs.TrialLines.{Says, Says-append, items_in, numbered, lines_of, lines-AreBytes}
use Rattle.article_trial_laws.specs.TrialNames.{Says-name_line}
use Rattle.article_trial_laws.specs.TrialSteps.{Dictionary, IsAt-new, obeyed, obeyed-then, obey_all-numbered, state}
use Rattle.article_trial_laws.specs.TrialBlocks.{are_alike}
use Rattle.article_trial_laws.specs.TrialRuns.{Ready, Chained, block_items, first_leads, next_leads}
use Rattle.article_trial_laws.specs.TrialEnds.{beginning_items, begins, d_5, made_5, ready_at_first, ending_items, exported, ending_exports}

-- What the lines say
Says-beginning : Says beginning beginning_items
Says-beginning = record { lines = refl; means = refl }

Says-ending : Says ending ending_items
Says-ending = record { lines = refl; means = refl }

-- the words of a block behind its name: of the first block, and of a later one
abbrev first_words : List (List ℕ)
first_words = words (codes
    "4 ref 5 ref 4 ref varTerm appTerm absTerm 6 def defineConst 3 ref appThm 6 ref 2 ref appTerm betaConv trans 7 def pop 1 ref constTerm 5 def pop")

abbrev later_words : List (List ℕ)
later_words = words (codes
    "4 ref 5 ref 4 ref varTerm appTerm absTerm 6 def defineConst 3 ref appThm 6 ref 2 ref appTerm betaConv trans 7 ref trans 7 def pop 1 ref constTerm 5 def pop")

Says-first : Says first_words (items_in first_words)
Says-first = record { lines = refl; means = refl }

Says-later : Says later_words (items_in later_words)
Says-later = record { lines = refl; means = refl }

-- a block after the first uses the theorem of the one before it
chained-later : (i : ℕ) → chained (suc (suc i)) ≡ words (codes "7 ref trans")
chained-later i = let later : (suc (suc i) == 1) ≡ false = grind (arith, nat_tests) in ap (λ b. cond b [] (words (codes "7 ref trans"))) later

block-later : (i : ℕ) → block (suc (suc i)) ≡ name_line (suc (suc i)) ∷ later_words
block-later i = ap (λ chain. name_line (suc (suc i)) ∷ (defining_words ++ (chain ++ keeping_words))) (chained-later i)

Says-block : (i : ℕ) → suc i ≤ 100000 → Says (block (suc i)) (block_items i)
Says-block zero h = Says-append (name_line 1 ∷ []) _ (item.Name (constant_name 1) ∷ []) _ (Says-name_line 0 h) Says-first
Says-block (suc i) h =
    subst (λ ws. Says ws (block_items (suc i))) (sym (block-later i))
    (Says-append (name_line (suc (suc i)) ∷ []) _ (item.Name (constant_name (suc (suc i))) ∷ []) _ (Says-name_line (suc i) h) Says-later)

-- the commands of n blocks
abbrev blocks_items : ℕ → List Item
blocks_items zero = []
blocks_items (suc i) = blocks_items i ++ block_items i

Says-blocks : (n : ℕ) → n ≤ 100000 → Says (blocks n) (blocks_items n)
Says-blocks zero h = record { lines = refl; means = refl }
Says-blocks (suc i) h = Says-append (blocks i) (block (suc i)) (blocks_items i) (block_items i) (Says-blocks i (omega (arith, h))) (Says-block i h)

abbrev trial_items : ℕ → List Item
trial_items n = beginning_items ++ (blocks_items n ++ ending_items)

Says-trial : (n : ℕ) → n ≤ 100000 → Says (beginning ++ (blocks n ++ ending)) (trial_items n)
Says-trial n h = Says-append beginning (blocks n ++ ending) beginning_items (blocks_items n ++ ending_items) Says-beginning
    (Says-append (blocks n) ending (blocks_items n) ending_items (Says-blocks n h) Says-ending)

-- How long they are
length-chained : (i : ℕ) → length (lines (chained i)) ≤ 12
length-chained i = go (i == 1)
  where
    go : (b : Bool) → length (lines (cond b [] (words (codes "7 ref trans")))) ≤ 12
    go true = omega arith
    go false = omega arith

length-block : (i : ℕ) → i ≤ 100000 → length (lines (block i)) ≤ 400
length-block i h =
    let middle : List ℕ = codes "\"\n" ++ lines defining_words in
    let end : List ℕ = lines (chained i) ++ lines keeping_words in
    let whole : length (lines (block i)) ≡ length (codes "\"c" ++ (decimal i ++ (middle ++ end))) = ap length (block_parts i (decimal i) refl) in
    let one : length (codes "\"c" ++ (decimal i ++ (middle ++ end))) ≡ 2 + length (decimal i ++ (middle ++ end)) =
    length-append (codes "\"c") (decimal i ++ (middle ++ end)) in
    let two : length (decimal i ++ (middle ++ end)) ≡ length (decimal i) + length (middle ++ end) = length-append (decimal i) (middle ++ end) in
    let three : length (middle ++ end) ≡ length middle + length end = length-append middle end in
    let four : length end ≡ length (lines (chained i)) + length (lines keeping_words) = length-append (lines (chained i)) (lines keeping_words) in
    let front : length middle ≤ 200 = omega arith in
    let back : length (lines keeping_words) ≤ 100 = omega arith in
    let digits : length (decimal i) ≤ 20 = length-decimal-le 20 i (omega arith) (omega (arith, h)) (omega (arith, h)) in
    omega (arith, whole, one, two, three, four, front, back, digits, length-chained i)

length-blocks : (n : ℕ) → n ≤ 100000 → length (lines (blocks n)) ≤ 400 * n
length-blocks zero h = omega arith
length-blocks (suc i) h =
    let parts : length (lines (blocks (suc i))) ≡ length (lines (blocks i)) + length (lines (block (suc i))) =
    ap length (lines-append (blocks i) (block (suc i))) ∙ length-append (lines (blocks i)) (lines (block (suc i))) in
    omega (arith, parts, length-blocks i (omega (arith, h)), length-block (suc i) h)

length-trial : (n : ℕ) → n ≤ 100000 → length (trial_text n) < max_article
length-trial n h =
    let whole : length (trial_text n) ≡ length (lines beginning) + length (lines (blocks n ++ ending)) =
    ap length (lines-append beginning (blocks n ++ ending)) ∙ length-append (lines beginning) (lines (blocks n ++ ending)) in
    let rest : length (lines (blocks n ++ ending)) ≡ length (lines (blocks n)) + length (lines ending) =
    ap length (lines-append (blocks n) ending) ∙ length-append (lines (blocks n)) (lines ending) in
    let front : length (lines beginning) ≤ 1000 = omega arith in
    let back : length (lines ending) ≤ 1000 = omega arith in
    omega (arith, whole, rest, front, back, length-blocks n h, h)

-- What they lead to
-- after i + 1 blocks
record After (i : ℕ) : Type 0 where
  dictionary : Dictionary
  made : List Made
  leads : obeyed (state d_5 made_5 []) (blocks_items (suc i)) ≡ Ok (state dictionary made [])
  ready : Ready (suc i) dictionary made
  chained : Chained (suc i) dictionary made

after : (i : ℕ) → suc i ≤ 100000 → After i
after zero h = let b = first_leads d_5 made_5 ready_at_first in record
    { dictionary = b.dictionary; made = b.after; leads = b.leads; ready = b.ready; chained = b.chained }
after (suc i) h =
    let a = after i (omega (arith, h)) in
    let b = next_leads i a.dictionary a.made h a.ready a.chained in
    record {
      dictionary = b.dictionary;
      made = b.after;
      leads = obeyed-then (blocks_items (suc i)) (block_items (suc i)) (state d_5 made_5 []) (state a.dictionary a.made []) (Ok (state b.dictionary b.after []))
          a.leads b.leads;
      ready = b.ready;
      chained = b.chained;
    }

-- The article is accepted
accepts : (i : ℕ) → suc i ≤ 100000 → (a : Accepted) × IsTrialRun (suc i) a
accepts i h =
    let a = after i h in
    let last : State = exported a.dictionary a.made a.chained.number (constant_name (suc i)) in
    let says = Says-trial (suc i) h in
    let read = lines_of (beginning ++ (blocks (suc i) ++ ending)) (trial_items (suc i)) says (length-trial (suc i) h) in
    let obeys : obeyed initial (trial_items (suc i)) ≡ Ok last =
    obeyed-then beginning_items (blocks_items (suc i) ++ ending_items) initial (state d_5 made_5 []) (Ok last) begins
    (obeyed-then (blocks_items (suc i)) ending_items (state d_5 made_5 []) (state a.dictionary a.made []) (Ok last) a.leads
    (ending_exports (suc i) a.dictionary a.made a.ready a.chained)) in
    let ends : obey_article machine initial (numbered 1 (trial_items (suc i))) (ended read.0)
    ≡ Ok (record last { stack = []; dictionary = entries.empty; place = start (version_at last.place); pool = last.exports }) =
    ap (λ r. r >>= (λ s. end_article machine s (ended read.0))) (obey_all-numbered (trial_items (suc i)) 1 initial last obeys) in (
      accepted_state last,
      record {
        bytes = lines-AreBytes (beginning ++ (blocks (suc i) ++ ending)) says.lines;
        short = length-trial (suc i) h;
        run = passed read.1 ends (finished refl);
        taken = symbols_of-push a.made (restatement a.chained.number (are_alike (constant_name (suc i)) f)) ∙ a.ready.taken;
        assumptions = refl;
        export = _;
        exports = refl;
        says = IsAt-new a.made (restatement a.chained.number (are_alike (constant_name (suc i)) f));
      },
    )

pub trials_are_accepted : TrialsAreAccepted
trials_are_accepted zero some h = absurd (omega arith)
trials_are_accepted (suc i) some h = accepts i h
