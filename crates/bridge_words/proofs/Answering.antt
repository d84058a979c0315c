-- What the answers of the code rest on.
use Rattle.std.proofs.Common.{◌≡◌, ◌∙◌, ◌⊎◌, inl, inr, true, false, List, [], ◌∷◌, drop, take, length, suc, ◌-◌, arith, Option, Some, None, option_map, IfOk, refl, sym, ap, ap₂, subst, true≢false}
use Rattle.std.specs.Prelude.{Box, String, string_bytes, is_some}
use Rattle.std.specs.Box.{box_value}
use Rattle.std.specs.List.{list_all}
use Rattle.std.specs.declared.alloc.Global.{Global}
use Rattle.std.proofs.lemmas.List.Folds.{list_all-map}
use Rattle.std.proofs.lemmas.List.{take_all}
use Rattle.std.proofs.lemmas.Option.{same_Some}
use Rattle.clap.specs.Walk.{Row, Text}
use Rattle.clap.specs.Matches.{subcommand_name_of}
use Rattle.clap.specs.Kinds.{Kinds, IsAmong}
use Rattle.clap.specs.Simple.{App, is_simple, subcommand_of, subcommand_rows, subcommand_rows_of}
use Rattle.clap.specs.Faults.{fault_of, is_simple_and_free}
use Rattle.clap.specs.declared.error.kind.ErrorKind.{ErrorKind}
use Rattle.clap.specs.declared.error.kind.ErrorKind.TheVariants.{OutOfMemory}
use Rattle.clap.specs.declared.parser.matches.ArgMatches.{ArgMatches}
use Rattle.clap.specs.declared.parser.matches.ArgMatches.TheViews.{out-ArgMatches, out-SubCommand}
use Rattle.clap.specs.declared.parser.matches.SubCommand.{SubCommand}
use Rattle.bridge_spec.specs.Calls.{names_in}
use Rattle.bridge_spec.specs.Forms.{Form, form_of}
use Rattle.bridge_words.specs.Asked.{asked}
use Rattle.bridge_words.specs.Commands.{bridge_app}
use Rattle.bridge_words.specs.Matches.{read}
use Rattle.bridge_words.specs.Readable.{is_readable, are_readable}
use Rattle.bridge_words.specs.Refused.{refused}
use Rattle.bridge_words.proofs.BuiltCommand.{simple_and_free}
use Rattle.bridge_words.proofs.Leaves.{taken}
use Rattle.bridge_words.proofs.AllWords.{words-ask}
use Rattle.bridge_words.proofs.ReadableWords.{are_readable-Kinds, form_after-unreadable}

-- ---- the subcommand and its matches

-- its name and its rows, where there is one
module _ {Z : Type 0} where
  both-rows : (o : Option (Box SubCommand Z)) (name : Text) (rows : List Row) → Some name ≡ option_map (λ b. (out-SubCommand (box_value b)).name.now) o
      → Some rows ≡ option_map (λ p. p.1) (subcommand_rows o) → Some (name, rows) ≡ subcommand_rows o
  both-rows None name rows e f = absurd (true≢false (ap is_some e))
  both-rows (Some b) name rows e f = ap₂ (λ n r. Some (n, r)) (same_Some _ _ e) (same_Some _ _ f)

  no-rows : (o : Option (Box SubCommand Z)) → None ≡ option_map (λ b. (out-SubCommand (box_value b)).name.now) o
      → ◌≡◌ {A = Option (Text × List Row)} None (subcommand_rows o)
  no-rows None e = refl
  no-rows (Some b) e = absurd (true≢false (sym (ap is_some e)))

pub named-rows : (m : ArgMatches) (name : Text) (rows : List Row) → Some name ≡ subcommand_name_of m → Some rows
    ≡ option_map (λ p. p.1) (subcommand_rows (out-ArgMatches m).subcommand)
    → Some (name, rows) ≡ subcommand_rows_of m
named-rows m name rows e f = both-rows (out-ArgMatches m).subcommand name rows e f

pub unnamed-rows : (m : ArgMatches) → None ≡ subcommand_name_of m → ◌≡◌ {A = Option (Text × List Row)} None (subcommand_rows_of m)
unnamed-rows m e = no-rows (out-ArgMatches m).subcommand e

-- ---- words that are handed to `clap`

-- the loop over the words after the first is over those that are to be readable
pub each-readable : (words : List (String Global)) → list_all (λ word. is_readable (string_bytes word)) (take (length words - 1) (drop 1 words))
    ≡ are_readable (drop 1 (names_in words))
each-readable [] = refl
each-readable (program ∷ words) =
    let all : take (suc (length words) - 1) words ≡ words = take_all (suc (length words) - 1) words (omega arith) in
    ap (list_all (λ word. is_readable (string_bytes word))) all ∙ sym (list_all-map is_readable string_bytes words)

-- words that are not have no form
pub unreadable : (words : List Text) → false ≡ are_readable (drop 1 words) → ◌≡◌ {A = Option Form} None (form_of words)
unreadable [] e = absurd (true≢false (sym e))
unreadable (program ∷ words) e = sym (form_after-unreadable words (sym e))

-- words that are handed to `clap` ask for their form
asks : (words : List Text) → true ≡ are_readable (drop 1 words) → taken (fault_of bridge_app words) (read (subcommand_of bridge_app words)) ≡ form_of words
asks words e = words-ask words (are_readable-Kinds (drop 1 words) (sym e))

-- where nothing is at fault the form is that of the matches
pub accepted : (app : App) (words : List Text) (rows : Option (Text × List Row)) → app ≡ bridge_app → true ≡ are_readable (drop 1 words)
    → (is_simple_and_free app ≡ true → fault_of app words ≡ []) → (is_simple app ≡ true → rows ≡ subcommand_of app words) → read rows ≡ form_of words
accepted app words rows is e faultless matched =
    let fault : fault_of bridge_app words ≡ [] = subst (λ (a : App). is_simple_and_free a ≡ true → fault_of a words ≡ []) is faultless simple_and_free in
    let found : rows ≡ subcommand_of bridge_app words = subst (λ (a : App). is_simple a ≡ true → rows ≡ subcommand_of a words) is matched refl in
    ap read found ∙ ap (λ k. taken k (read (subcommand_of bridge_app words))) (sym fault) ∙ asks words e

-- where something is, there is none
among-some : (k : ErrorKind) (faults : Kinds) (form asked_for : Option Form) → IsAmong k faults → taken faults form ≡ asked_for → None ≡ asked_for
among-some k [] form asked_for h e = absurd h
among-some k (x ∷ faults) form asked_for h e = e

-- no form is answered where there is none
refused-None : (k : ErrorKind) (form : Option Form) → None ≡ form → IfOk (refused k) (λ found. option_map asked found ≡ form)
refused-None OutOfMemory form e = tt
refused-None _ form e = e

-- .. and so is what is refused, want of memory aside
pub refused-form : (app : App) (words : List Text) (k : ErrorKind) → app ≡ bridge_app → true ≡ are_readable (drop 1 words)
    → (is_simple_and_free app ≡ true → (k ≡ OutOfMemory) ⊎ IsAmong k (fault_of app words)) → IfOk (refused k) (λ found. option_map asked found ≡ form_of words)
refused-form app words k is e kind = go
    (subst (λ (a : App). is_simple_and_free a ≡ true → (k ≡ OutOfMemory) ⊎ IsAmong k (fault_of a words)) is kind simple_and_free)
  where
    go : (k ≡ OutOfMemory) ⊎ IsAmong k (fault_of bridge_app words) → IfOk (refused k) (λ found. option_map asked found ≡ form_of words)
    go (inl memory) = subst (λ j. IfOk (refused j) (λ found. option_map asked found ≡ form_of words)) (sym memory) tt
    go (inr among) = refused-None k (form_of words)
        (among-some k (fault_of bridge_app words) (read (subcommand_of bridge_app words)) (form_of words) among (asks words e))
