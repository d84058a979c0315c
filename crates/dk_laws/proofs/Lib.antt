mod Examples
mod FaultExamples
