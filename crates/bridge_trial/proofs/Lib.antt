mod TrialRuns
