-- What `decode` and `trial` make of their words: one word.
use Rattle.std.proofs.Common.{◌≡◌, false, List, [], ◌∷◌, Option, None, refl}
use Rattle.std.specs.List.{AllByRecursion}
use Rattle.clap.specs.Walk.{Text, rows_after, walked, nothing_held}
use Rattle.clap.specs.Simple.{Shape}
use Rattle.clap.specs.Kinds.{Kinds}
use Rattle.clap.specs.Faults.{level_fault, walk_fault, defaults_fault}
use Rattle.bridge_spec.specs.Forms.{Form, decode_form, trial_form}
use Rattle.bridge_words.specs.Matches.{read_decode, read_trial}
use Rattle.bridge_words.proofs.WordKinds.{Kind, file, budget, named, fast, share, fast_valued, share_valued, other}
use Rattle.bridge_words.proofs.BuiltCommand.{decode_leaf, trial_leaf}

-- what is asked for, where nothing is at fault
abbrev pub taken : Kinds → Option Form → Option Form
taken [] form = form
taken (k ∷ ks) form = None

-- what is at fault in the words of a subcommand
abbrev pub fault : Shape → List Text → Kinds
fault s words = level_fault s [] nothing_held words false []

-- the words after `decode` ask for their form
abbrev Decodes : List Text → Type 0
Decodes ws = taken (fault decode_leaf ws) (read_decode (rows_after decode_leaf.rules [] ws)) ≡ decode_form ws

decode-one : (w : Text) → Kind w → Decodes (w ∷ [])
unfolding walked walk_fault defaults_fault
decode-one w (file b bs e) = simp e refl
decode-one w budget = refl
decode-one w (named number) = refl
decode-one w fast = refl
decode-one w share = refl
decode-one w (fast_valued value) = refl
decode-one w (share_valued value) = refl
decode-one w (other c cs o) = refl

decode-many : (w x : Text) (ws : List Text) → Kind w → Kind x → Decodes (w ∷ x ∷ ws)
unfolding walked walk_fault defaults_fault
decode-many w x ws (file b bs e) (file c cs f) = simp (e, f) refl
decode-many w x ws (file b bs e) budget = simp e refl
decode-many w x ws (file b bs e) (named number) = simp e refl
decode-many w x ws (file b bs e) fast = simp e refl
decode-many w x ws (file b bs e) share = simp e refl
decode-many w x ws (file b bs e) (fast_valued value) = simp e refl
decode-many w x ws (file b bs e) (share_valued value) = simp e refl
decode-many w x ws (file b bs e) (other c cs o) = simp e refl
decode-many w x ws budget k = refl
decode-many w x ws (named number) k = refl
decode-many w x ws fast k = refl
decode-many w x ws share k = refl
decode-many w x ws (fast_valued value) k = refl
decode-many w x ws (share_valued value) k = refl
decode-many w x ws (other c cs o) k = refl

pub decode-words : (ws : List Text) → AllByRecursion Kind ws → Decodes ws
unfolding walked walk_fault defaults_fault
decode-words [] h = refl
decode-words (w ∷ []) h = decode-one w h.0
decode-words (w ∷ x ∷ ws) h = decode-many w x ws h.0 h.1.0

-- the words after `trial` ask for their form
abbrev Tries : List Text → Type 0
Tries ws = taken (fault trial_leaf ws) (read_trial (rows_after trial_leaf.rules [] ws)) ≡ trial_form ws

trial-one : (w : Text) → Kind w → Tries (w ∷ [])
unfolding walked walk_fault defaults_fault
trial-one w (file b bs e) = simp e refl
trial-one w budget = refl
trial-one w (named number) = refl
trial-one w fast = refl
trial-one w share = refl
trial-one w (fast_valued value) = refl
trial-one w (share_valued value) = refl
trial-one w (other c cs o) = refl

trial-many : (w x : Text) (ws : List Text) → Kind w → Kind x → Tries (w ∷ x ∷ ws)
unfolding walked walk_fault defaults_fault
trial-many w x ws (file b bs e) (file c cs f) = simp (e, f) refl
trial-many w x ws (file b bs e) budget = simp e refl
trial-many w x ws (file b bs e) (named number) = simp e refl
trial-many w x ws (file b bs e) fast = simp e refl
trial-many w x ws (file b bs e) share = simp e refl
trial-many w x ws (file b bs e) (fast_valued value) = simp e refl
trial-many w x ws (file b bs e) (share_valued value) = simp e refl
trial-many w x ws (file b bs e) (other c cs o) = simp e refl
trial-many w x ws budget k = refl
trial-many w x ws (named number) k = refl
trial-many w x ws fast k = refl
trial-many w x ws share k = refl
trial-many w x ws (fast_valued value) k = refl
trial-many w x ws (share_valued value) k = refl
trial-many w x ws (other c cs o) k = refl

pub trial-words : (ws : List Text) → AllByRecursion Kind ws → Tries ws
unfolding walked walk_fault defaults_fault
trial-words [] h = refl
trial-words (w ∷ []) h = trial-one w h.0
trial-words (w ∷ x ∷ ws) h = trial-many w x ws h.0 h.1.0
