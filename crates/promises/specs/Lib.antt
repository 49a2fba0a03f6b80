-- THE PAGE: what a user relies on, one file a call. First the three demands of document 01, of any answer.
pub mod Demands
pub mod PlanFile
pub mod PlanCall
pub mod DeepCall
pub mod Departure
pub mod TwoCars
pub mod TreeCount
pub mod Distances
pub mod Judging
pub mod OpenPlan
pub mod Districts
-- The same for other languages, over the numbers and slices that they lend.
pub mod Exports
pub mod ExportedRuns
-- Each statement of the page, proved.
pub mod Proved
-- What callers in other languages lend for an answer, and what two cars' number says of each.
pub mod Slices
pub mod CarNumber
-- What callers are told over an open plan's bytes, and over a machine's.
pub mod Told
-- How they are proved.
pub mod Laws
