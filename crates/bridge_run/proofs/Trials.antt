-- A trial that words ask for has a number of blocks from 1 to the most.
use Rattle.std.proofs.Common.{◌≡◌, ◌<◌, ◌≤◌, ◌+◌, ◌*◌, ◌-◌, ◌&&◌, ℕ, Bool, true, false, List, [], ◌∷◌, Option, None, Some, option_map, refl, arith, ◌++◌, take, drop}
use Rattle.std.specs.Prelude.{◌==◌, nat_le, is_some, if◌then◌else◌, codes}
use Rattle.std.specs.List.{fold, list_all}
use Rattle.std.specs.Str.{bytes_eq}
use Rattle.std.proofs.lemmas.Bool.Decides.{nat_tests}
use Rattle.article_spec.specs.Numbers.{is_digit, decimal}
use Rattle.bridge_run.specs.Blocks.{HasBlocks}
use Rattle.bridge_spec.specs.Forms.{Form, verify, translate, show, decode, trial, greatest_trial, is_file, are_files, up_to, number_up_to, trial_of, budget_in, check_in, Checking, checking, check_after, check_form, run_in, Running, running, run_after, verify_form, translate_form, decode_form, trial_form, files_form, form_by, form_of}

-- what is asked of a number that a word says
abbrev IsNumber : ℕ → Option ℕ → Type 0
IsNumber most None = Unit {0}
IsNumber most (Some n) = (0 < n) × (n ≤ most)

-- more digits make no number less
digits-grow : (bs : List ℕ) (value : ℕ) → value ≤ fold (λ value digit. 10 * value + (digit - 48)) value bs
digits-grow [] value = omega arith
digits-grow (b ∷ bs) value = let more = digits-grow bs (10 * value + (b - 48)) in omega (arith, more)

up_to-IsNumber : (most n : ℕ) → 0 < n → IsNumber most (up_to most (Some n))
up_to-IsNumber most n some = go (nat_le n most) refl
  where
    go : (b : Bool) → nat_le n most ≡ b → IsNumber most (if b then Some n else None)
    go true e = (some, grind (arith, nat_tests, e))
    go false e = tt

number_up_to-IsNumber : (most : ℕ) (word : List ℕ) → IsNumber most (number_up_to most word)
number_up_to-IsNumber most [] = tt
number_up_to-IsNumber most (b ∷ bs) = go (b == 48) refl (is_digit b) refl (list_all is_digit bs)
  where
    go : (zero : Bool) → (b == 48) ≡ zero → (digit : Bool) → is_digit b ≡ digit → (digits : Bool)
        → IsNumber most (if zero then None else up_to most (if digit && digits then Some (decimal (b ∷ bs)) else None))
    go true z digit e digits = tt
    go false z true e true =
        let first : 0 < b - 48 = grind (arith, nat_tests, z, e) in
        let more = digits-grow bs (10 * 0 + (b - 48)) in
        up_to-IsNumber most (decimal (b ∷ bs)) (omega (arith, first, more))
    go false z true e false = tt
    go false z false e digits = tt

-- whichever way it goes
either : (b : Bool) (one two : Option Form) → HasBlocks one → HasBlocks two → HasBlocks (if b then one else two)
either true one two h k = h
either false one two h k = k

check_in-HasBlocks : (fast : Bool) (file : Option (List ℕ)) (budget : Option ℕ) → HasBlocks (check_in fast file budget)
check_in-HasBlocks fast None budget = tt
check_in-HasBlocks fast (Some name) None = tt
check_in-HasBlocks fast (Some name) (Some budget) = tt

check_after-HasBlocks : (g : Checking) (b : Bool) (words : List (List ℕ)) → HasBlocks (check_after g b words)
check_after-HasBlocks g true [] = tt
check_after-HasBlocks g false [] = check_in-HasBlocks g.fast g.file (budget_in g.budget)
check_after-HasBlocks g true (w ∷ ws) = either (is_file w) _ None (check_after-HasBlocks (record g { budget = Some w }) false ws) tt
check_after-HasBlocks g false (w ∷ ws) =
    either (bytes_eq w (codes "--fast")) _ _ (either g.fast None _ tt (check_after-HasBlocks (record g { fast = true }) false ws))
    (either (bytes_eq w (codes "--budget")) _ _ (either (is_some g.budget) None _ tt (check_after-HasBlocks g true ws))
    (either (bytes_eq (take 9 w) (codes "--budget=")) _ _
    (either (is_some g.budget) None _ tt (check_after-HasBlocks (record g { budget = Some (drop 9 w) }) false ws))
    (either (is_file w) _ None (either (is_some g.file) None _ tt (check_after-HasBlocks (record g { file = Some w }) false ws)) tt)))

check_form-HasBlocks : (words : List (List ℕ)) → HasBlocks (check_form words)
check_form-HasBlocks words = check_after-HasBlocks (checking None None false) false words

-- of a form that needs no number of blocks, whatever was read
module _ (fast_too : Bool) (form : Running → Form) (none : (g : Running) → HasBlocks (Some (form g))) where
  run_in-HasBlocks : (g : Running) (files : List (List ℕ)) → HasBlocks (run_in form g files)
  run_in-HasBlocks g [] = tt
  run_in-HasBlocks g (name ∷ names) = none g

  run_after-HasBlocks : (g : Running) (words : List (List ℕ)) → HasBlocks (run_after fast_too form g words)
  run_after-HasBlocks g [] = run_in-HasBlocks g g.files
  run_after-HasBlocks g (w ∷ ws) =
      either (bytes_eq w (codes "--share")) _ _ (either g.share None _ tt (run_after-HasBlocks (record g { share = true }) ws))
      (either (fast_too && bytes_eq w (codes "--fast")) _ _ (either g.fast None _ tt (run_after-HasBlocks (record g { fast = true }) ws))
      (either (is_file w) _ None (run_after-HasBlocks (record g { files = g.files ++ w ∷ [] }) ws) tt))

verify_form-HasBlocks : (words : List (List ℕ)) → HasBlocks (verify_form words)
verify_form-HasBlocks words = run_after-HasBlocks true (λ g. verify g.share g.fast g.files) (λ g. tt) (running [] false false) words

translate_form-HasBlocks : (words : List (List ℕ)) → HasBlocks (translate_form words)
translate_form-HasBlocks words = run_after-HasBlocks false (λ g. translate g.share g.files) (λ g. tt) (running [] false false) words

decode_form-HasBlocks : (words : List (List ℕ)) → HasBlocks (decode_form words)
decode_form-HasBlocks [] = tt
decode_form-HasBlocks (name ∷ []) = go (is_file name)
  where
    go : (b : Bool) → HasBlocks (if b then Some (decode name) else None)
    go true = tt
    go false = tt
decode_form-HasBlocks (one ∷ two ∷ words) = tt

trial_form-HasBlocks : (words : List (List ℕ)) → HasBlocks (trial_form words)
trial_form-HasBlocks [] = tt
trial_form-HasBlocks (word ∷ []) = go (trial_of word) (number_up_to-IsNumber greatest_trial word)
  where
    go : (o : Option ℕ) → IsNumber greatest_trial o → HasBlocks (option_map trial o)
    go None h = tt
    go (Some n) h = h
trial_form-HasBlocks (one ∷ two ∷ words) = tt

-- files, or no form
files_form-HasBlocks : (form : List (List ℕ) → Form) → ((names : List (List ℕ)) → HasBlocks (Some (form names))) → (words : List (List ℕ))
    → HasBlocks (files_form form words)
files_form-HasBlocks form none words = either (are_files words) (Some (form words)) None (none words) tt

form_by-HasBlocks : (word : List ℕ) (words : List (List ℕ)) → HasBlocks (form_by word words)
form_by-HasBlocks word words =
    either (bytes_eq word (codes "verify")) _ _ (verify_form-HasBlocks words)
    (either (bytes_eq word (codes "translate")) _ _ (translate_form-HasBlocks words)
    (either (bytes_eq word (codes "check")) _ _ (check_form-HasBlocks words)
    (either (bytes_eq word (codes "show")) _ _ (files_form-HasBlocks show (λ names. tt) words)
    (either (bytes_eq word (codes "decode")) _ _ (decode_form-HasBlocks words)
    (either (bytes_eq word (codes "trial")) _ _ (trial_form-HasBlocks words)
    (either (bytes_eq word (codes "article")) _ None (files_form-HasBlocks Form.article (λ names. tt) words) tt))))))

-- the number of blocks of a trial that words ask for
pub form_of-HasBlocks : (words : List (List ℕ)) → HasBlocks (form_of words)
form_of-HasBlocks [] = tt
form_of-HasBlocks (program ∷ []) = tt
form_of-HasBlocks (program ∷ word ∷ words) = form_by-HasBlocks word words
