mod SetupLemmas
