mod BinderTexts
mod NameTexts
mod NumberedTexts
mod SlotLaws
