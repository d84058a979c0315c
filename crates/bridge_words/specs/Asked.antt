-- The form that was read of the words.
use Rattle.bridge_spec.specs.Forms as forms
use Rattle.bridge_spec.specs.Calls.{names_in}
use Rattle.bridge_words.specs.declared.form.Form.{Form}
use Rattle.bridge_words.specs.declared.form.Form.TheVariants.{Verify, Translate, Check, Show, Decode, Trial, Article}

-- it is the form of the same names and numbers
abbrev pub asked : Form → forms.Form
asked (Verify share fast files) = forms.verify share fast (names_in files.items)
asked (Translate share files) = forms.translate share (names_in files.items)
asked (Check fast file budget) = forms.check fast file.now budget
asked (Show files) = forms.show (names_in files.items)
asked (Decode file) = forms.decode file.now
asked (Trial n) = forms.trial n
asked (Article files) = forms.article (names_in files.items)
