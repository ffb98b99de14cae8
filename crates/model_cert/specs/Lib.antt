-- Certificates: bounds as one text of JSON, and what a text stands for.
pub mod Json
pub mod Fault
pub mod Sets
pub mod Row
pub mod Document
pub mod Written
pub mod Laws
