mod ClosedLaws
mod HypLaws
mod ParamLaws
mod Turns
