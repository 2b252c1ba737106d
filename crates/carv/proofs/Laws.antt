-- What is proved: Demand1, Demand2, Demand3, the demands of specs/Demands.antt; Sentences, what they say, sentence by sentence; Overspending, P3; Charging, P7; Reporting, from an entry point to its C
-- function; AnswerWords, the answer words of each value written out.
pub mod Reporting
pub mod Demand1
pub mod Demand2
pub mod Demand3
pub mod Overspending
pub mod Sentences
pub mod Charging
pub mod AnswerWords
